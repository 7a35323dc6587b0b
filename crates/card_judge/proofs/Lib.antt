-- What is known of an analysis that a card holds.
pub mod Analyses
