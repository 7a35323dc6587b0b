pub mod Loud
pub mod inside
