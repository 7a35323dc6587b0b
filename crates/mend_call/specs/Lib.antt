pub mod Mends
pub mod inside
