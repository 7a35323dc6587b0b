-- The ways out of a call, and by induction over calls the theorems of specs/.
mod Ways
pub mod TotalsStay
pub mod CardsCounted
