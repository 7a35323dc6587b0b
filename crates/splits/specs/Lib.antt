pub mod Splits
pub mod inside
