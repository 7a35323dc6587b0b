-- What comes of each way out of the call.
pub mod Ways
