-- Laws of the definitions that callers cite.
pub mod KeyLaws
pub mod RecordsLaws
pub mod RoundTrips
