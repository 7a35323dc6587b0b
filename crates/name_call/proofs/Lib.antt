-- What the proofs of the whole call share, on plain values.
mod Outcomes
