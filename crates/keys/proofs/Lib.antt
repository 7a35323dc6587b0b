-- What the functions' proofs share, and the theorem on numbers.
pub mod Placed
pub mod Equal
