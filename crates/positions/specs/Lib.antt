pub mod Positions
pub mod inside
