-- Laws of the definitions, which proofs cite.
pub mod ArraysLaws
pub mod BytesLaws
pub mod CaseLaws
pub mod WordsLaws
