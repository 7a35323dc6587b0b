pub mod Shorten
pub mod Ends
pub mod Counts
pub mod inside
