-- Laws of the definitions, which proofs cite.
pub mod LeftLaws
