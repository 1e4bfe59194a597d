-- Of the definitions there is no law: callers cite their numbers by computing.
pub mod PassedLaws
