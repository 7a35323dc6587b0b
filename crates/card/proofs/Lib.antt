-- What the rules and the layouts give.
pub mod Unbroken
pub mod Fits
pub mod Judged
pub mod Known
pub mod Chosen
