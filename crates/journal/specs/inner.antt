-- Definitions that only contracts of inner functions cite.
pub mod Counted
