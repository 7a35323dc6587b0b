-- What the functions' proofs share, that of several segments the longest is reported, and what of them is not read.
pub mod Rows
pub mod Lengths
mod Branches
pub mod Reported
pub mod Unread
