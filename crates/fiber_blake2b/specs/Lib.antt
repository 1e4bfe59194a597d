-- What BLAKE2b and CKB's hash mean.
pub mod Blake2b
