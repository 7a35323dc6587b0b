pub mod Analyse
pub mod Demand
