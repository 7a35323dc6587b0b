-- What the functions' proofs share, on plain values.
mod Classes
pub mod Fronts
mod Shifts
