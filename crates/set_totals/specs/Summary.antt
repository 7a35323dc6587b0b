-- The summary of a set, worked out afresh from its bytes. Definitions only.
use Rattle.std.specs.Prelude.{ℕ, ◌-◌, cond, List, [], ◌∷◌, ◌++◌, eqb, length}
use Rattle.laws.specs.Front.{list}
use Rattle.card.specs.Layout.{Meaning}
use Rattle.card.specs.Rules.{no_key, card_segment, start_at}
use Rattle.card.specs.declared.layout.Header.{Header}
use Rattle.card.specs.declared.layout.Segment.{Segment}
use Rattle.card_reader.specs.Reading.{Reading, refused, says}
use Rattle.laws.specs.Sums.{sum_below}
use Rattle.set_places.specs.Places.{places, place_at, card_in, read_whole}

-- ---- of one card
-- segment i's milliseconds: its end less the end before it, the first from 0
abbrev pub segment_time : List Segment → ℕ → ℕ
segment_time ss i = (card_segment ss i).end - start_at ss i

-- a key's milliseconds: those of the segments in it
unfoldable pub key_time : Meaning → ℕ → ℕ
key_time m key =
    let ss = m.segments in
    sum_below (λ (i : ℕ). cond (eqb (card_segment ss i).key key) (segment_time ss i) 0) (length ss)

-- 1 for a card without a key
abbrev pub keyless_of : Header → ℕ
keyless_of h = cond (eqb h.key no_key) 1 0

-- ---- of a set
-- the milliseconds of each key, the number of cards, and how many of them have no key
pub record Summary : Type 0 where
  pub totals : List ℕ
  pub cards : ℕ
  pub keyless : ℕ

-- a number of what was read, and 0 where nothing was
abbrev pub of_reading : (Meaning → ℕ) → Reading → ℕ
of_reading of (refused number) = 0
of_reading of (says m) = of m

-- the sum of a number over the cards in a set's bytes
unfoldable pub over_cards : (Meaning → ℕ) → List ℕ → ℕ
over_cards of bytes = sum_below (λ (i : ℕ). of_reading of (read_whole (card_in (place_at bytes i)))) places

-- worked out afresh from the cards in a set
unfoldable pub summary_of : List ℕ → Summary
summary_of bytes =
    record {
      totals = list (λ (key : ℕ). over_cards (λ (m : Meaning). key_time m key) bytes) 24;
      cards = over_cards (λ (m : Meaning). 1) bytes;
      keyless = over_cards (λ (m : Meaning). keyless_of m.header) bytes;
    }

-- a summary as it is lent: 26 numbers
unfoldable pub numbers_of : Summary → List ℕ
numbers_of s = s.totals ++ (s.cards ∷ s.keyless ∷ [])
