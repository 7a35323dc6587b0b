pub mod Run
pub mod Rising
pub mod inside
