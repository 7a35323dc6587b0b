pub mod Sorted
pub mod inside
