-- What a refusal says.
pub mod Rows
