pub mod Bits
pub mod inside
