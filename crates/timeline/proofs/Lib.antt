pub mod Tilings
pub mod Estimates
pub mod Segments
pub mod Counts
pub mod Rooms
