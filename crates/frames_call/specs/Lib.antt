pub mod FramesOnly
pub mod inside
