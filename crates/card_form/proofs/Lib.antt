-- What is known of the form of a card.
pub mod Lengths
pub mod ReadBack
pub mod PutAgain
pub mod Broken
