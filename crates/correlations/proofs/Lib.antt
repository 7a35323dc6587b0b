-- That the shared engine is the plain correlation, and that its divisor is said to be held up where it is.
mod HeldUp
pub mod Turned
