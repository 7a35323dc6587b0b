-- What the proofs cite, and what the functions by value do.
pub mod Fits
mod Tasks
