-- What the journal's operations mean: entries and their chain, append and walk, and what holds of a journal that appends have grown.
pub mod Chain
pub mod Journal
pub mod Grown
pub mod inner
