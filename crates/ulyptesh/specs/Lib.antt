pub mod Analysis
pub mod Unique
