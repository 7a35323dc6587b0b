pub mod Gather
pub mod inside
