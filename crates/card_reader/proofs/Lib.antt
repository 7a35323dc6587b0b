-- What the functions' proofs share.
pub mod Apart
pub mod Ready
