-- What the functions' proofs share, on plain values.
pub mod Tests
pub mod FromBool
