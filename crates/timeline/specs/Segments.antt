-- A stretch of time with one key, [start, end) in seconds, and such segments in lent rows: five slices side by side, with keys by number. Definitions only.
use Rattle.std.specs.Prelude.{ℕ, ◌+◌, Bool, List, [], ◌∷◌, map, length, get_or, Float}
use Rattle.std.specs.Float.{nan, binary64}
use Rattle.std.specs.Float.Ieee.{sub, lt}
use Rattle.laws.specs.Front.{front, list, shortest}
use Rattle.laws.specs.Values.{plus_zero}
use Rattle.laws.specs.Pick.{maximum_number, minimum_number}
use Rattle.keys.specs.declared.Key.{Key}
use Rattle.keys.specs.Numbers.{key_number, key_at}
use Rattle.timeline.specs.declared.segment.Segment.{Segment}

-- a segment, from its parts
abbrev pub segment : Float → Float → Key → Float → ℕ → Segment
segment start end key confidence windows = record { start = start; end = end; key = key; confidence = confidence; windows = windows }

-- what a row holds that joining has emptied: zeros and key 0
abbrev pub emptied : Segment
emptied = segment plus_zero plus_zero (key_at 0) plus_zero 0

-- a segment's length, as the Rust computes it
unfoldable pub seconds : Segment → Float
seconds s = sub binary64 s.end s.start

-- shorter than the minimum
unfoldable pub short : Float → Segment → Bool
short least s = lt (seconds s) least

-- two neighbours as one: it has the key and the confidence of the earlier one, and rests on the windows of both
unfoldable pub joined : Segment → Segment → Segment
joined earlier later =
    segment (minimum_number later.start earlier.start) (maximum_number later.end earlier.end) earlier.key earlier.confidence (earlier.windows + later.windows)

-- segment i
abbrev pub segment_at : List Segment → ℕ → Segment
segment_at segments i = get_or segments i emptied

-- rows of segments
pub record SegmentRows : Type 0 where
  pub starts : List Float
  pub ends : List Float
  pub keys : List ℕ
  pub confidences : List Float
  pub counts : List ℕ

-- as a contract has it: what the references refer to
abbrev pub lent_segments : List Float → List Float → List ℕ → List Float → List ℕ → SegmentRows
lent_segments starts ends keys confidences counts = record { starts = starts; ends = ends; keys = keys; confidences = confidences; counts = counts }

-- the rows once these segments stand in the first places
abbrev pub holding_segments : List Segment → SegmentRows → SegmentRows
holding_segments segments before =
    record {
      starts = front (map (λ (s : Segment). s.start) segments) before.starts;
      ends = front (map (λ (s : Segment). s.end) segments) before.ends;
      keys = front (map (λ (s : Segment). key_number s.key) segments) before.keys;
      confidences = front (map (λ (s : Segment). s.confidence) segments) before.confidences;
      counts = front (map (λ (s : Segment). s.windows) segments) before.counts;
    }

-- the segment in row i
unfoldable pub segment_in : SegmentRows → ℕ → Segment
segment_in r i = segment (get_or r.starts i nan) (get_or r.ends i nan) (key_at (get_or r.keys i 0)) (get_or r.confidences i nan) (get_or r.counts i 0)

-- the segments in the first rows
abbrev pub segments_in : SegmentRows → ℕ → List Segment
segments_in r count = list (segment_in r) count

-- how many rows there are
abbrev pub segment_room : SegmentRows → ℕ
segment_room r = shortest (length r.starts) (length r.ends ∷ length r.keys ∷ length r.confidences ∷ length r.counts ∷ [])
