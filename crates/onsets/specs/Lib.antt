pub mod Onsets
pub mod Weighted
