-- That no end lies after the track.
pub mod Times
pub mod Held
pub mod Ends
