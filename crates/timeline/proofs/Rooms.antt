-- No more rows than the shortest slice has are there in each.
use Prim.Native.Nat.{ℕ, ◌≤◌}
use native.Mathlib.Omega.{arith}
use lib.ListN.{length}
use Rattle.timeline.specs.Estimates.{EstimateRows, estimate_room}
use Rattle.timeline.specs.Segments.{SegmentRows, segment_room}
use Rattle.timeline.specs.inside.Segments.{Room}

pub room_within : (rows : SegmentRows) (n : ℕ) → n ≤ segment_room rows → Room rows n
room_within rows n h = record { starts = omega arith; ends = omega arith; keys = omega arith; confidences = omega arith; counts = omega arith }

pub estimates-within : (rows : EstimateRows) (n : ℕ) → n ≤ estimate_room rows → (n ≤ length rows.centres) × (n ≤ length rows.keys) × (n ≤ length rows.confidences) × (n ≤ length rows.shapeless)
estimates-within rows n h = (omega arith, omega arith, omega arith, omega arith)
