-- Laws of the definitions that callers cite.
pub mod WitnessLaws
pub mod UpdateLaws
pub mod StridedLaws
pub mod LeftLaws
pub mod EdgesLaws
pub mod LeavingLaws
pub mod StateLaws
pub mod UnlocksLaws
