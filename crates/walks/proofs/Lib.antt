-- A kit for walks by hand: what a function over a lent slice does, and the steps of its walk.
pub mod Plain
pub mod Rows
pub mod Looks
pub mod Values
pub mod Locals
pub mod Known
pub mod Arrays
pub mod Calls
pub mod Elements
pub mod Walk
