-- What only the code's own steps need: no promise names it.
pub mod Answered
