pub mod Summary
pub mod inside
