pub mod Correlation
pub mod HeldUp
pub mod inside
