-- Definitions of its own it has none but for inner functions: what it builds is defined in fiber_choice.
pub mod inner
