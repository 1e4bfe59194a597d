-- What reading a witness, its unlocks and an update mean.
pub mod Witness
pub mod Unlocks
pub mod Update
pub mod inner
