-- Laws of the definitions that callers cite; the promises hold.
pub mod EntriesLaws
pub mod HandedLaws
pub mod FirstRecordsLaws
pub mod RequestLaws
pub mod PreimagesLaws
pub mod VerdictsLaws
pub mod WaitsLaws
pub mod WalkLaws
pub mod SettlementsLaws
pub mod ChoiceLaws
pub mod ByteLaws
pub mod PromisesLaws
