-- What SHA-256 means.
pub mod Sha256
pub mod inner
