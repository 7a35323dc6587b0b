-- What only the code's own steps and proofs need: no promise names it.
pub mod Parts
