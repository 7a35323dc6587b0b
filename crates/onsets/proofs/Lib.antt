-- What the functions' proofs share: work numbers that end as zeros, and weights.
mod Emptied
mod Weighing
