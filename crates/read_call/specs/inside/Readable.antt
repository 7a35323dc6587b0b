-- What reading segments into rows needs. No promise names it. Definitions only.
use Rattle.std.specs.Prelude.{◌≡◌, List, ℕ, set, ◌*◌, ◌^◌, ◌≤◌, ◌<◌, length}
use Rattle.bits.specs.Bits.{bits_of_bytes}
use Rattle.card.specs.Layout.{LayoutFits, SegmentFits}
use Rattle.card.specs.declared.layout.Layout.{Layout}
use Rattle.card_form.specs.Form.{segment_place, segment_on}
use Rattle.card.specs.declared.layout.Segment.{Segment}
use Rattle.card_form.specs.Rows.{CardRows, lent_card_rows}
use Rattle.read_call.specs.declared.LentRows.{LentRows}

-- a card of so many segments whose numbers fit the rows, and rows for them
pub record CanRead (bytes : List ℕ) (l : Layout) (count : ℕ) (rows : CardRows) : Type 0 where
  pub layout : LayoutFits l
  pub narrow : l.end ≤ 32
  pub few : count < 2 ^ 32
  pub there : segment_place l count ≤ length bytes * 8
  pub fits : (i : ℕ) → i < count → SegmentFits l (segment_on l (bits_of_bytes bytes) i)
  pub room : (count ≤ length rows.starts) × (count ≤ length rows.ends) × (count ≤ length rows.keys) × (count ≤ length rows.confidences)

-- what lent rows hold
abbrev pub card_rows : LentRows → CardRows
card_rows r = lent_card_rows r.starts.now r.ends.now r.keys.now r.confidences.now

-- the same slices, though what they hold may change
abbrev pub SameSlices : LentRows → LentRows → Type 0
SameSlices r s =
    (s.starts.ghost_name ≡ r.starts.ghost_name)
    × (s.ends.ghost_name ≡ r.ends.ghost_name)
    × (s.keys.ghost_name ≡ r.keys.ghost_name)
    × (s.confidences.ghost_name ≡ r.confidences.ghost_name)

-- there is a place i
abbrev pub HasRow : CardRows → ℕ → Type 0
HasRow rows i = (i < length rows.starts) × (i < length rows.ends) × (i < length rows.keys) × (i < length rows.confidences)

-- a segment's numbers fit the rows
abbrev pub RowFits : Segment → Type 0
RowFits s = (s.end < 2 ^ 32) × (s.key < 2 ^ 8) × (s.confidence < 2 ^ 16)

-- rows with a segment in place i
abbrev pub with_row : ℕ → ℕ → Segment → CardRows → CardRows
with_row i start s rows = lent_card_rows (set rows.starts i start) (set rows.ends i s.end) (set rows.keys i s.key) (set rows.confidences i s.confidence)
