-- What only the code's own steps need: no promise names it.
pub mod Lengths
pub mod Gap
pub mod Settled
