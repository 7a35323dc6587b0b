-- What the functions' proofs share, and the theorems on shortening.
pub mod Settles
pub mod Counts
mod Searches
mod Apart
mod Empties
mod Shortens
pub mod Tiled
