-- The promises of a wait are not empty.
mod WaitsExample
