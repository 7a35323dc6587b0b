-- What the functions' proofs share, on plain values, and what a root means.
mod Squares
mod Heron
mod Doubled
mod Rounded
mod Values
mod Parts
mod Special
mod Grid
mod Neighbours
mod Fractions
pub mod Meaning
