pub mod Tuning
pub mod Shift
