-- Reading is the exact inverse of writing, over all layouts together. The statements; proofs/Inverse.antt and Numbers.antt prove them.
use Rattle.std.specs.Prelude.{◌≡◌, true, List, ℕ, ◌≤◌, length, is_some}
use Rattle.bits.specs.Bits.{AllBytes}
use Rattle.card.specs.Layout.{Meaning, most_segments}
use Rattle.card.specs.Rules.{layout_for}
use Rattle.card_form.specs.Form.{card_for}
use Rattle.card_reader.specs.Reading.{refused, says, read_of}

-- bytes are the card of a meaning that one holds
pub record IsCardOf (m : Meaning) (bytes : List ℕ) : Type 0 where
  pub held : is_some (layout_for m) ≡ true
  pub written : bytes ≡ card_for m

-- bytes that are read as a meaning are its card, and there are rows for its segments
abbrev pub ReadIsWritten : Type 0
ReadIsWritten = (bytes : List ℕ) → AllBytes bytes → (rows : ℕ) (m : Meaning) → read_of bytes rows ≡ says m → IsCardOf m bytes × (length m.segments ≤ rows)

-- the card of a meaning is read as that meaning, where there are rows for its segments
abbrev pub WrittenIsRead : Type 0
WrittenIsRead = (bytes : List ℕ) (rows : ℕ) (m : Meaning) → IsCardOf m bytes → length m.segments ≤ rows → read_of bytes rows ≡ says m

-- with rows for the most segments of any card, none is refused for want of rows
abbrev pub RoomForAll : Type 0
RoomForAll = (bytes : List ℕ) (rows : ℕ) → most_segments ≤ rows → read_of bytes rows ≡ refused 24 → ⊥
