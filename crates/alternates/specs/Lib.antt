pub mod Alternate
pub mod Named
pub mod Unread
pub mod inside
