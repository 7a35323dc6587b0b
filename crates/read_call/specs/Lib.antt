pub mod Reads
pub mod inside
