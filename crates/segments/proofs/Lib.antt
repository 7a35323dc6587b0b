mod Fills
mod Locates
pub mod Demand
pub mod Located
pub mod LaidOut
