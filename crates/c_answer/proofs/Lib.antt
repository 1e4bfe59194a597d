-- Laws of the definitions that callers cite.
pub mod AnswersLaws
