-- What the functions' proofs share, on plain values, and that packed numbers are rounded down.
mod Signs
mod Values
pub mod Down
