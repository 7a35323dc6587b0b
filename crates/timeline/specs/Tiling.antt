-- Segments that tile a track, and of which none is short: demand 3's words on them. Definitions only.
use Rattle.std.specs.Prelude.{◌≡◌, false, ℕ, ◌+◌, ◌<◌, List, length, T, Float}
use Rattle.std.specs.Float.{binary64}
use Rattle.std.specs.Float.Ieee.{le}
use Rattle.laws.specs.Values.{plus_zero, Held}
use Rattle.timeline.specs.Segments.{short, segment_at}
use Rattle.timeline.specs.declared.segment.Segment.{Segment}

-- a time in seconds: a finite f64 from +0 up
abbrev pub Time : Float → Type 0
Time = Held binary64

-- the segments tile zero to the duration
pub record Tiles (duration : Float) (segments : List Segment) : Type 0 where
  pub some : 0 < length segments
  pub times : (i : ℕ) → i < length segments → Time (segment_at segments i).end
  pub first_start : (segment_at segments 0).start ≡ plus_zero
  pub next_start : (i : ℕ) → i + 1 < length segments → (segment_at segments (i + 1)).start ≡ (segment_at segments i).end
  pub last_end : (i : ℕ) → i + 1 ≡ length segments → (segment_at segments i).end ≡ duration
  pub forward : (i : ℕ) → i < length segments → T (le (segment_at segments i).start (segment_at segments i).end)
  pub ends_never_fall : (i : ℕ) → i + 1 < length segments → T (le (segment_at segments i).end (segment_at segments (i + 1)).end)

-- none of several is shorter than the minimum
abbrev pub NoneShort : Float → List Segment → Type 0
NoneShort least segments = 1 < length segments → (i : ℕ) → i < length segments → short least (segment_at segments i) ≡ false
