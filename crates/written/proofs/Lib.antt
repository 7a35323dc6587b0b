-- What the calls that write into lent bytes share.
pub mod Outcomes
