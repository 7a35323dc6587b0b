pub mod ConstantQ
pub mod inside
