pub mod Rooms
pub mod Squares
pub mod Fours
