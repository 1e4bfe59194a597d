-- The marked rows of document 01.
pub mod Edges
