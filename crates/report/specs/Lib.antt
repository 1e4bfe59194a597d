-- What the report says.
pub mod Report
pub mod inner
