-- What every writer of a card cites, wherever segment i is read from.
pub mod Puts
pub mod Kept
