-- What is known of the frames ahead of a window.
pub mod Known
pub mod Alike
pub mod Searches
