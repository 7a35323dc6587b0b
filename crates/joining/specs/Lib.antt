pub mod Threes
