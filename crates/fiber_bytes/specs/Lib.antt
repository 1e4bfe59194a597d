-- What the byte library's operations mean.
pub mod Bytes
pub mod Words
