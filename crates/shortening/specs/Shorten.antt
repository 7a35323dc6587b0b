-- Shortening, written from the Rust's `merge_short_segments`: while several are left, the first that is shorter than the minimum joins a neighbour. Definitions only.
use Rattle.std.specs.Prelude.{ℕ, zero, suc, ◌+◌, ◌-◌, Bool, ◌&&◌, cond, List, ◌∷◌, ◌++◌, length, take, drop, replicate, ltb, eqb, Float}
use Rattle.std.specs.Float.Ieee.{le}
use Rattle.laws.specs.First.{first}
use Rattle.timeline.specs.Segments.{emptied, seconds, short, joined, segment_at}
use Rattle.timeline.specs.declared.segment.Segment.{Segment}

-- where the first short segment stands: their number where none is short
unfoldable pub first_short : Float → List Segment → ℕ
first_short least segments = first (λ (i : ℕ). short least (segment_at segments i)) (length segments) 0

-- the earlier of the two that join where segment i is short: the first joins the second, the last the one before it, any other the longer neighbour, of equals the earlier
unfoldable pub keeper : List Segment → ℕ → ℕ
keeper segments i =
    cond (eqb i 0) 0
    (cond (eqb (i + 1) (length segments)) (i - 1)
    (cond (le (seconds (segment_at segments (i + 1))) (seconds (segment_at segments (i - 1)))) (i - 1) i))

-- the segments p and p + 1 joined: those before p, the two as one, and those from p + 2 on
unfoldable pub join_at : ℕ → List Segment → List Segment
join_at p segments = take p segments ++ (joined (segment_at segments p) (segment_at segments (p + 1)) ∷ drop (p + 2) segments)

-- several segments, and a short one among them
unfoldable pub unsettled : Float → List Segment → Bool
unsettled least segments = ltb 1 (length segments) && ltb (first_short least segments) (length segments)

-- the first short segment joins its neighbour
unfoldable pub join_short : Float → List Segment → List Segment
join_short least segments = join_at (keeper segments (first_short least segments)) segments

-- at most so many joins
unfoldable pub shorten : ℕ → Float → List Segment → List Segment
shorten zero least segments = segments
shorten (suc budget) least segments = cond (unsettled least segments) (shorten budget least (join_short least segments)) segments

-- as many joins as it takes: never more than there are segments
unfoldable pub shortened_of : Float → List Segment → List Segment
shortened_of least segments = shorten (length segments) least segments

-- what the rows hold after that: the rows that joining emptied follow
unfoldable pub left_in : Float → List Segment → List Segment
left_in least segments = shortened_of least segments ++ replicate (length segments - length (shortened_of least segments)) emptied
