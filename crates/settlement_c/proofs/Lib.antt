-- Laws of the definitions that callers cite.
pub mod ChooseLaws
pub mod SettlementLaws
