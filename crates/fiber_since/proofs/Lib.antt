-- Laws of the definitions that callers cite.
pub mod EpochLaws
pub mod EdgesLaws
