-- Segments in a lent slice of records: what shortening makes of it. Definitions only.
use Rattle.std.specs.Prelude.{ℕ, List, length, take, Float}
use Rattle.laws.specs.Front.{front}
use Rattle.timeline.specs.declared.segment.Segment.{Segment}
use Rattle.shortening.specs.Shorten.{shortened_of, left_in}

-- how many segments are left, and the records that hold them
pub record Left : Type 0 where
  pub count : ℕ
  pub records : List Segment

-- both together
abbrev pub left : ℕ → List Segment → Left
left count records = record { count = count; records = records }

-- the first `count` records shortened: emptied ones follow those that are left, and the records behind them stay
unfoldable pub shortened_in : Float → ℕ → List Segment → Left
shortened_in least count records = left (length (shortened_of least (take count records))) (front (left_in least (take count records)) records)
