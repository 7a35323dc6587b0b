-- What the functions' proofs share.
mod Outcomes
mod Rows
