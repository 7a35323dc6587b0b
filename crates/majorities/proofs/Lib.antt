-- What the functions' proofs share, on plain lists.
mod Counting
