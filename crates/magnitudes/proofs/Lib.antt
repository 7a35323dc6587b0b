mod Resonators
mod Batches
mod Agreement
