-- Definitions that only contracts of inner functions cite.
pub mod Marks
pub mod Taking
pub mod Strided
pub mod Records
pub mod Leaving
