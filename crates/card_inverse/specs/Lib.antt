pub mod Inverse
pub mod OneCard
pub mod Calls
