-- What the functions' proofs share: halves of a range of keys, the value of a key, and a slice whose first numbers are zeroed.
mod Halves
mod ByKey
pub mod Zeroed
