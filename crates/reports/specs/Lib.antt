pub mod Report
pub mod inside
