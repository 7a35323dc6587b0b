pub mod Layout
pub mod Rules
