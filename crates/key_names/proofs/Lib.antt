-- What the functions' proofs share, on plain lists.
pub mod Letters
