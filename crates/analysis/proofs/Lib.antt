-- What the proofs of an analysis share, demand 3, and the windows counted.
mod Supplied
mod Outcomes
mod Ways
pub mod Demand
pub mod Counted
