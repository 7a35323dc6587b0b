-- Estimates cut into groups and each group made a segment, written from the Rust's `estimate_segments`. Definitions only.
use Rattle.std.specs.Prelude.{ℕ, zero, suc, ◌+◌, ◌-◌, cond, List, [], ◌∷◌, ◌++◌, map, length, pos, ◌==◌, slice_index_or, slice_range, Float}
use Rattle.std.specs.Float.{binary32}
use Rattle.std.specs.Float.Ieee.{of_int, div}
use Rattle.laws.specs.Values.{plus_zero}
use Rattle.numbers.specs.Sum.{sum_of}
use Rattle.keys.specs.declared.Key.{Key}
use Rattle.keys.specs.Numbers.{key_number, key_at}
use Rattle.timeline.specs.Estimates.{no_estimate}
use Rattle.timeline.specs.declared.estimate.Estimate.{Estimate}
use Rattle.timeline.specs.Segments.{segment}
use Rattle.majorities.specs.Majority.{majority_of}
use Rattle.splits.specs.Splits.{splits, border_of}
use Rattle.timeline.specs.declared.segment.Segment.{Segment}

-- estimate i
abbrev pub estimate_at : List Estimate → ℕ → Estimate
estimate_at found i = slice_index_or found i no_estimate

-- ---- where groups begin and end
-- a border of a group: how many estimates stand before it, and its time in seconds
pub record Border : Type 0 where
  pub place : ℕ
  pub time : Float

-- the same, from its parts
abbrev pub border : ℕ → Float → Border
border place time = record { place = place; time = time }

-- the border between estimates j and j + 1: none where they stand in one group
unfoldable pub border_after : Float → List Estimate → ℕ → List Border
border_after threshold found j =
    let before = estimate_at found j in
    let next = estimate_at found (j + 1) in
    cond (splits threshold before next) (border (j + 1) (border_of before next) ∷ []) []

-- the borders between the estimates 0 to n
unfoldable pub inner_borders : Float → List Estimate → ℕ → List Border
inner_borders threshold found zero = []
inner_borders threshold found (suc j) = inner_borders threshold found j ++ border_after threshold found j

-- all borders: where the track begins, those between estimates, and where the track ends
abbrev pub borders_of : Float → Float → List Estimate → List Border
borders_of threshold duration found = border 0 plus_zero ∷ (inner_borders threshold found (length found - 1) ++ (border (length found) duration ∷ []))

-- ---- a group as a segment
-- the entries from `from` up to `to`
abbrev pub between : {A : Type 0} → List A → ℕ → ℕ → List A
between xs from to = slice_range xs from to

-- the numbers of the estimates' keys
abbrev pub numbers_of : List Estimate → List ℕ
numbers_of = map (λ (e : Estimate). key_number e.key)

-- the estimates' confidences
abbrev pub confidences_of : List Estimate → List Float
confidences_of = map (λ (e : Estimate). e.confidence)

-- the sum of the confidences from -0, over their number
unfoldable pub mean_confidence : List Float → Float
mean_confidence confidences = div binary32 (sum_of (length confidences) confidences) (of_int binary32 (pos (length confidences)))

-- the segment between two borders: the majority's key and the mean confidence of the estimates there, and how many they are
unfoldable pub group_of : List Estimate → Border → Border → Segment
group_of found from to =
    let group = between found from.place to.place in
    segment from.time to.time (key_at (majority_of (numbers_of group))) (mean_confidence (confidences_of group)) (length group)

-- a segment between each border and the next
unfoldable pub segments_between : List Estimate → List Border → List Segment
segments_between found [] = []
segments_between found (b ∷ []) = []
segments_between found (b ∷ c ∷ r) = group_of found b c ∷ segments_between found (c ∷ r)

-- the segments of all groups
unfoldable pub groups_of : Float → Float → List Estimate → List Segment
groups_of threshold duration found = segments_between found (borders_of threshold duration found)

-- the segments before shortening: where there is no estimate one over the whole track, with this key and confidence, which rests on none
unfoldable pub first_segments : Float → Float → Key → Float → List Estimate → List Segment
first_segments threshold duration key confidence found = cond (length found == 0) (segment plus_zero duration key confidence 0 ∷ []) (groups_of threshold duration found)
