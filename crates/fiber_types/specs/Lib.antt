-- What the lower face's own operations mean, records, unlocks and key hashes, and which lengths of hashes its types take.
pub mod HashLen
pub mod Taken
pub mod Key
pub mod Records
