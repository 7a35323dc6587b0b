pub mod Blend
pub mod Frame
