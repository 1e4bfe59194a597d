-- What the reading of test lists means.
pub mod Lines
pub mod Fields
