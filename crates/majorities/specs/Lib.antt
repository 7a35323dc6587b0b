pub mod Majority
pub mod inside
