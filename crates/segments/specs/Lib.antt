pub mod Demand
pub mod inside
