-- What is known of sets: what a place holds, and a place changed.
pub mod Zeros
pub mod Changed
pub mod Found
pub mod InPlace
pub mod Sound
