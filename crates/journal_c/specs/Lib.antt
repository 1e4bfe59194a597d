-- What the journal's calls over C leave.
pub mod JournalCalls
