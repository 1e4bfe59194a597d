-- Definitions that only contracts of inner functions cite.
pub mod Plan
pub mod Request
pub mod Noting
