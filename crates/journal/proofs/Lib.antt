-- Laws of the definitions that callers cite.
pub mod ChainLaws
pub mod CountLaws
pub mod EntryLaws
pub mod TestLaws
pub mod JournalLaws
pub mod FormedLaws
pub mod GrownLaws
