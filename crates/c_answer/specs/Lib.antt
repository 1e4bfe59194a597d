-- What an answer buffer holds.
pub mod Answers
