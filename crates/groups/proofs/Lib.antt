mod Parts
mod Loop
mod Cuts
pub mod Unread
pub mod Tiled
pub mod Few
pub mod Counted
