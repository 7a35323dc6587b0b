-- Over any joining the segments rest on as many windows together as before. The statement.
use Rattle.std.specs.Prelude.{◌≡◌, ℕ, ◌+◌, ◌<◌, List, length, Float}
use Rattle.timeline.specs.Counts.{total_windows}
use Rattle.timeline.specs.declared.segment.Segment.{Segment}
use Rattle.shortening.specs.Shorten.{join_at, shortened_of, left_in}

-- over a join of any two neighbours, over all joins of shortening, and in the rows, those that were emptied among them
pub record TotalKept (segments : List Segment) : Type 0 where
  pub joined : (p : ℕ) → p + 1 < length segments → total_windows (join_at p segments) ≡ total_windows segments
  pub shortened : (least : Float) → total_windows (shortened_of least segments) ≡ total_windows segments
  pub left : (least : Float) → total_windows (left_in least segments) ≡ total_windows segments

-- of any segments
abbrev pub CountsStay : Type 0
CountsStay = (segments : List Segment) → TotalKept segments
