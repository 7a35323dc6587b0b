-- Laws that the functions' proofs share, and the theorems.
pub mod Starts
pub mod Found
pub mod Runs
pub mod Budget
pub mod Rising
pub mod Spans
pub mod Alike
