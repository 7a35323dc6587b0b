-- What the promises' proofs share, and that each promise allows one outcome.
mod Analyses
pub mod Unique
