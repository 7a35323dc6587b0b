-- What a well-formed sheet gives.
pub mod Formed
mod Joined
