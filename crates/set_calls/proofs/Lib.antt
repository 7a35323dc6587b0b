-- What the functions share: when a lent set is true, which cards are accepted, and what a call then makes of it.
pub mod Truth
pub mod Accepted
