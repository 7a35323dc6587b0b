pub mod Call
pub mod Rows
pub mod Lent
pub mod inside
