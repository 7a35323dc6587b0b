-- Only for the code's own steps: no promise names it. Two records joined, the later ones moved down, and which two join.
use Rattle.std.specs.Prelude.{ℕ, ◌+◌, cond, List, ◌∷◌, ◌++◌, set, take, drop, ltb, eqb}
use Rattle.std.specs.Float.Ieee.{le}
use Rattle.timeline.specs.Segments.{emptied, seconds, joined, segment_at}
use Rattle.timeline.specs.inside.Segments.{Joinable}
use Rattle.timeline.specs.declared.segment.Segment.{Segment}

-- of the first `count` entries, p is taken out, those behind it follow, and x is the last of them instead
unfoldable pub moved_down : {A : Type 0} → ℕ → ℕ → A → List A → List A
moved_down p count x xs = take p xs ++ (drop (p + 1) (take count xs) ++ (x ∷ drop count xs))

-- record i + 1 stands at i too
abbrev pub copied_down : ℕ → List Segment → List Segment
copied_down i records = set records i (segment_at records (i + 1))

-- record p and the one behind it can join
abbrev pub JoinableAt : ℕ → List Segment → Type 0
JoinableAt p records = Joinable (segment_at records p) (segment_at records (p + 1))

-- record p is joined with the one behind it, which stays
abbrev pub joined_at : ℕ → List Segment → List Segment
joined_at p records = set records p (joined (segment_at records p) (segment_at records (p + 1)))

-- of the first `count` records, p and p + 1 become one, and the gap is closed: an emptied record is the last
abbrev pub joined_records : ℕ → ℕ → List Segment → List Segment
joined_records p count records = moved_down (p + 1) count emptied (joined_at p records)

-- the place behind i among `count`: i itself where it is the last
unfoldable pub place_after : ℕ → ℕ → ℕ
place_after i count = cond (ltb (i + 1) count) (i + 1) i

-- Which of two that join is the earlier, where i is short and its neighbours stand before and after it: the first and the last have one neighbour,
-- and their other one is themselves.
unfoldable pub kept_place : ℕ → ℕ → ℕ → Segment → Segment → ℕ
kept_place i before after earlier later = cond (eqb before i) i (cond (eqb after i) before (cond (le (seconds later) (seconds earlier)) before i))
