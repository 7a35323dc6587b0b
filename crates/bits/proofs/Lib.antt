-- What is known of bits, and what the functions' proofs share.
pub mod Digits
pub mod Puts
pub mod Binary
pub mod Fields
