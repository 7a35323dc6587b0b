-- What the proofs cite, and the theorems on shortening over records.
pub mod Tasks
pub mod Gap
pub mod Places
pub mod Shortened
pub mod Same
