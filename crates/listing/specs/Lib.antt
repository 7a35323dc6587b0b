pub mod Lines
pub mod Listing
pub mod LongInputs
pub mod inside
