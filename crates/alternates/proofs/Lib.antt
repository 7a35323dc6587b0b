-- What the functions' proofs share, on plain values, and the theorems.
mod Branches
mod Sums
mod Noting
pub mod Tiled
pub mod Named
pub mod Unread
