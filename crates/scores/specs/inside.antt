-- What only the code's own steps need: no promise names it.
pub mod Constants
pub mod Modes
pub mod Scored
