-- What the probes' proofs share, on plain values.
mod Segmenting
