-- The book of a channel, the third demand as one claim about it, and that a choice's amount is what the book's observer counts.
pub mod Trace
pub mod Book
pub mod Demand3
pub mod Paid
