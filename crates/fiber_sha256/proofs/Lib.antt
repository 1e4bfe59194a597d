-- Laws of the definitions, and values of FIPS 180-4 as theorems.
pub mod Sha256Bits
pub mod Sha256Laws
pub mod Sha256Vectors
