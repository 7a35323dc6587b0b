pub mod Resonator
pub mod Four
pub mod Classes
pub mod inside
