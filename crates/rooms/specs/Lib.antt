pub mod Lent
pub mod Room
pub mod Budget
pub mod inside
