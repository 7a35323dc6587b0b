pub mod Groups
pub mod Unread
pub mod Tiled
pub mod Counted
pub mod inside
