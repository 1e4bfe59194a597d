-- What a host lends, first records and the choice mean, one file to a section of document 01; and the promises. What is in inner is for contracts
-- of inner functions alone.
pub mod Entries
pub mod Request
pub mod FirstRecords
pub mod Preimages
pub mod Walk
pub mod Verdicts
pub mod Waits
pub mod Answered
pub mod HandedOut
pub mod Settlements
pub mod Choice
pub mod Promises
pub mod inner
