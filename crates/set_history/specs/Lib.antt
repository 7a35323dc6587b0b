pub mod Calls
pub mod TotalsStay
pub mod CardsCounted
