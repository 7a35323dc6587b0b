pub mod Estimates
pub mod Segments
pub mod Counts
pub mod Tiling
pub mod inside
