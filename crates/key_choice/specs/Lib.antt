pub mod Places
pub mod Classify
