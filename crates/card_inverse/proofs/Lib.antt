-- That reading is the inverse of writing, and what follows for the calls.
pub mod Inverse
pub mod Numbers
pub mod OneCard
mod Again
pub mod Calls
