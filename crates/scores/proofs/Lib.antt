-- What the functions' proofs share, on plain values.
mod Constants
mod Modes
mod Shapes
pub mod Counted
