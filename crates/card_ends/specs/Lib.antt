pub mod Times
pub mod Ends
