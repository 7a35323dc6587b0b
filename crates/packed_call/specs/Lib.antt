pub mod PackedCards
