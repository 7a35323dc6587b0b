pub mod Cards
pub mod Answered
