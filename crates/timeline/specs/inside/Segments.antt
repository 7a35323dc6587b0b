-- Segments put into lent rows, what is left in them, and what is read from some of their columns. No promise names it. Definitions only.
use Rattle.std.specs.Prelude.{ℕ, ◌+◌, ◌^◌, ◌<◌, ◌≤◌, Bool, List, length, get_or, set, Float}
use Rattle.std.specs.Float.{nan, binary64}
use Rattle.std.specs.Float.Ieee.{sub, lt}
use Rattle.laws.specs.Front.{list}
use Rattle.laws.specs.Values.{plus_zero}
use Rattle.keys.specs.declared.Key.{Key}
use Rattle.keys.specs.Numbers.{key_number, key_at}
use Rattle.timeline.specs.Segments.{segment, SegmentRows, holding_segments}
use Rattle.timeline.specs.declared.segment.Segment.{Segment}

-- two segments can join: the windows of both are a count of 32 bits
abbrev pub Joinable : Segment → Segment → Type 0
Joinable earlier later = earlier.windows + later.windows < 2 ^ 32

-- ---- put into rows
-- rows of segments, from their slices
abbrev pub segment_rows : List Float → List Float → List ℕ → List Float → List ℕ → SegmentRows
segment_rows starts ends keys confidences counts = record { starts = starts; ends = ends; keys = keys; confidences = confidences; counts = counts }

-- the rows with one segment put into place n
abbrev pub put_segment : Segment → ℕ → SegmentRows → SegmentRows
put_segment s n r =
    segment_rows (set r.starts n s.start) (set r.ends n s.end) (set r.keys n (key_number s.key)) (set r.confidences n s.confidence) (set r.counts n s.windows)

-- so many rows are there
pub record Room (before : SegmentRows) (count : ℕ) : Type 0 where
  pub starts : count ≤ length before.starts
  pub ends : count ≤ length before.ends
  pub keys : count ≤ length before.keys
  pub confidences : count ≤ length before.confidences
  pub counts : count ≤ length before.counts

-- how many segments there are, and the rows that hold them
pub record FilledRows : Type 0 where
  pub count : ℕ
  pub rows : SegmentRows

-- both together
abbrev pub filled_rows : ℕ → SegmentRows → FilledRows
filled_rows count rows = record { count = count; rows = rows }

-- these segments stand in the first rows
abbrev pub standing : List Segment → SegmentRows → FilledRows
standing segments before = filled_rows (length segments) (holding_segments segments before)

-- ---- read from columns
-- the length of the segment in row i, from its columns
unfoldable pub seconds_in : List Float → List Float → ℕ → Float
seconds_in starts ends i = sub binary64 (get_or ends i nan) (get_or starts i nan)

-- shorter than the minimum
unfoldable pub short_in : Float → List Float → List Float → ℕ → Bool
short_in least starts ends i = lt (seconds_in starts ends i) least

-- the columns that the reported key and the alternate are read from
pub record Stretches : Type 0 where
  pub starts : List Float
  pub ends : List Float
  pub keys : List ℕ

-- the same, from their slices
abbrev pub stretches : List Float → List Float → List ℕ → Stretches
stretches starts ends keys = record { starts = starts; ends = ends; keys = keys }

-- as a contract has it: what the references refer to
abbrev pub lent_stretches : List Float → List Float → List ℕ → Stretches
lent_stretches starts ends keys = stretches starts ends keys

-- those of whole rows
abbrev pub stretches_of : SegmentRows → Stretches
stretches_of r = stretches r.starts r.ends r.keys

-- a segment of which nothing else is known: the columns say neither its confidence nor its windows
abbrev pub stretch : Float → Float → Key → Segment
stretch start end key = segment start end key plus_zero 0

-- a segment as far as the reported key and the alternate read it
abbrev pub as_stretch : Segment → Segment
as_stretch s = stretch s.start s.end s.key

-- the segment in row i, so far
unfoldable pub stretch_in : Stretches → ℕ → Segment
stretch_in c i = stretch (get_or c.starts i nan) (get_or c.ends i nan) (key_at (get_or c.keys i 0))

-- the segments in the first rows
abbrev pub stretches_in : Stretches → ℕ → List Segment
stretches_in c count = list (stretch_in c) count

-- so many of them are there
pub record Stretched (c : Stretches) (count : ℕ) : Type 0 where
  pub starts : count ≤ length c.starts
  pub ends : count ≤ length c.ends
  pub keys : count ≤ length c.keys
