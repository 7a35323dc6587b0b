pub mod Compared
pub mod Flags
pub mod Sum
