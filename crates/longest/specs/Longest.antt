-- The reported key, written from the Rust's `longest_segment_key` and `analyze`. Definitions and the statement.
use Rattle.std.specs.Prelude.{◌≡◌, false, cond, ℕ, ◌<◌, List, length, T, ltb}
use Rattle.laws.specs.Turns.{turns}
use Rattle.laws.specs.Order.{total_order}
use Rattle.keys.specs.declared.Key.{Key}
use Rattle.timeline.specs.Segments.{seconds, segment_at}
use Rattle.timeline.specs.declared.segment.Segment.{Segment}

-- `max_by` takes the later one where it is not before the other
unfoldable pub longer : Segment → Segment → Segment
longer best s = cond (total_order (seconds best) (seconds s)) s best

-- segment i against the longest before it
abbrev pub longest_turn : List Segment → ℕ → Segment → Segment
longest_turn segments i best = longer best (segment_at segments i)

-- the longest segment, the last of equals
unfoldable pub longest_of : List Segment → Segment
longest_of segments = turns (longest_turn segments) (length segments) 0 (segment_at segments 0)

-- of several segments the longest one's key, else the classified one
unfoldable pub reported_of : Key → List Segment → Key
reported_of classified segments = cond (ltb 1 (length segments)) (longest_of segments).key classified

-- segment i is the longest: none is longer, and each behind it is shorter
pub record Longest (segments : List Segment) (i : ℕ) : Type 0 where
  pub there : i < length segments
  pub most : (j : ℕ) → j < length segments → T (total_order (seconds (segment_at segments j)) (seconds (segment_at segments i)))
  pub last : (j : ℕ) → i < j → j < length segments → total_order (seconds (segment_at segments i)) (seconds (segment_at segments j)) ≡ false

-- of several segments the longest one's key is reported
abbrev pub LongestReported : Type 0
LongestReported = (classified : Key) (segments : List Segment) → 1 < length segments → (i : ℕ) × Longest segments i × (reported_of classified segments ≡ (segment_at segments i).key)
