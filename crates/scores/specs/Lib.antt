pub mod Profiles
pub mod Scores
pub mod Shape
pub mod inside
