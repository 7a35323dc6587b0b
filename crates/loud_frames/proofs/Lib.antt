-- The loud frames read from their rows, and a law for each way out.
pub mod Read
mod Louds
