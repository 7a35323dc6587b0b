-- What the functions' proofs share, on plain lists.
pub mod Behind
mod Decimals
pub mod Digit
mod Sizes
mod Segments
mod Whole
pub mod Beyond
