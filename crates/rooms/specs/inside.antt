-- What only proofs need: no promise names it.
pub mod With
