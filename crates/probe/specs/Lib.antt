pub mod Filters
pub mod Medians
pub mod Packed
