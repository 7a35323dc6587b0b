pub mod Longest
pub mod Unread
