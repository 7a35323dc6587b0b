pub mod Sets
pub mod inside
