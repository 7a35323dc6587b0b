-- What is known of a summary's numbers: of one card, of what is read, of a whole set.
pub mod Times
pub mod Numbers
pub mod Readings
mod Adding
mod OnePlace
pub mod Tallied
pub mod Exchanged
