pub mod Spans
pub mod Resonators
pub mod Rows
