-- What the functions' proofs share: counting and sorting, then keys and the search.
pub mod Count
pub mod Sorted
pub mod Keys
pub mod Found
mod Under
pub mod Kept
mod Moved
