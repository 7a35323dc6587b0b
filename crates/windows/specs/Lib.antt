pub mod Span
pub mod Estimates
pub mod Run
pub mod Budget
pub mod Rising
pub mod inside
