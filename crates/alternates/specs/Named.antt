-- Demand 3 on the alternate key: it is named exactly when the coverage rule says. Statements only.
use Rattle.std.specs.Prelude.{◌≡◌, true, false, ℕ, ◌*◌, ◌^◌, ◌<◌, List, length, T, eqb, Float, Some}
use Rattle.std.specs.Float.{binary64}
use Rattle.std.specs.Float.Ieee.{lt, le}
use Rattle.laws.specs.Values.{plus_zero, ordered, nonneg}
use Rattle.laws.specs.Convert.{parts}
use Rattle.timeline.specs.Segments.{segment_at}
use Rattle.timeline.specs.Tiling.{Tiles}
use Rattle.timeline.specs.declared.segment.Segment.{Segment}
use Rattle.alternates.specs.Alternate.{lasts_in, total_of, seconds_of, coverage_of, lacks, alternate, alternate_of}

-- a key other than the reported one reaches the threshold: it has a lasting segment, and its coverage does not lack
pub record Reaches (reported : ℕ) (threshold : Float) (segments : List Segment) (key : ℕ) : Type 0 where
  pub other : eqb key reported ≡ false
  pub place : ℕ
  pub there : place < length segments
  pub lasts : lasts_in key (segment_at segments place) ≡ true
  pub enough : lacks threshold (coverage_of (total_of segments) (seconds_of segments key)) ≡ false

-- what holds of an alternate that is named: the threshold is above zero, the key reaches it, and no other such key has more seconds
pub record Rightly (reported : ℕ) (threshold : Float) (segments : List Segment) (key : ℕ) (coverage : Float) : Type 0 where
  pub above_zero : T (lt plus_zero threshold)
  pub reaches : Reaches reported threshold segments key
  pub covers : coverage ≡ coverage_of (total_of segments) (seconds_of segments key)
  pub most : (j : ℕ) → Reaches reported threshold segments j → T (le (seconds_of segments j) (seconds_of segments key))

-- an alternate is named exactly when the threshold is above zero and some key reaches it
pub record Exactly (reported : ℕ) (threshold : Float) (segments : List Segment) : Type 0 where
  pub only : (key : ℕ) (coverage : Float) → alternate_of reported threshold segments ≡ Some (alternate key coverage) → Rightly reported threshold segments key coverage
  pub whenever : T (lt plus_zero threshold) → (key : ℕ) → Reaches reported threshold segments key → (k : ℕ) × (c : Float) × (alternate_of reported threshold segments ≡ Some (alternate k c))

-- where the threshold is no NaN and the seconds' sum is finite
abbrev pub NamedExactly : Type 0
NamedExactly = (reported : ℕ) (threshold : Float) (segments : List Segment) → T (ordered threshold) → T (nonneg (total_of segments)) → Exactly reported threshold segments

-- so it is in a tiling of at most D seconds, where segments times D stay far from the overflow
abbrev pub TiledTotalFinite : Type 0
TiledTotalFinite = (duration : Float) (segments : List Segment) (D : ℕ) → Tiles duration segments → T (le duration (parts binary64 0 D)) → length segments * D < 2 ^ 53 → T (nonneg (total_of segments))
