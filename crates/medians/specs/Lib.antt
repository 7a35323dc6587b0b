pub mod Median
