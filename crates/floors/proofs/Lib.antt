-- What the function's proof leans on, and what a floor means.
mod Floors
pub mod Largest
