-- Laws of the definitions, and values of RFC 7693 and of CKB as theorems.
pub mod Blake2bLaws
pub mod Blake2bVectors
