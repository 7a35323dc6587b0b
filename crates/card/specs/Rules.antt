-- 01's card rules, on the packed numbers, each test a way to break one; and the layout that they leave. Definitions only.
use Rattle.std.specs.Prelude.{ℕ, zero, suc, Bool, not, ◌&&◌, ◌||◌, cond, List, [], ◌∷◌, eqb, leb, ltb, length, get_or, Option, Some, None}
use Rattle.laws.specs.First.{first}
use Rattle.laws.specs.Table.{any_of}
use Rattle.card.specs.Layout.{Meaning, layout1, layouts}
use Rattle.card.specs.declared.layout.Layout.{Layout}
use Rattle.card.specs.declared.layout.Header.{Header}
use Rattle.card.specs.declared.layout.Segment.{Segment}

-- a key's number where there is none
abbrev pub no_key : ℕ
no_key = 24

-- one of two tests passes, and the other does not
abbrev pub only_one : Bool → Bool → Bool
only_one a b = (a && not b) || (not a && b)

-- how a header of so many segments can break one
abbrev pub header_tests : Layout → Header → ℕ → List Bool
header_tests l h count =
    let silent = eqb h.key no_key in
    let alone = eqb h.alternate no_key in
    ltb no_key h.key
    ∷ ltb no_key h.dsp
    ∷ ltb no_key h.alternate
    ∷ ltb 1000 h.coverage
    ∷ ltb 1000 h.confidence
    ∷ ltb l.most count
    ∷ only_one silent (eqb h.dsp no_key)
    ∷ only_one silent (eqb count 0)
    ∷ (silent && not alone)
    ∷ (silent && not (eqb h.confidence 0))
    ∷ (alone && not (eqb h.coverage 0))
    ∷ (not silent && eqb h.alternate h.key)
    ∷ []

-- a header of so many segments breaks a rule
unfoldable pub header_broken : Layout → Header → ℕ → Bool
header_broken l h count = any_of (header_tests l h count)

-- how a segment can break one behind an end: one that stands alone may end there
abbrev pub segment_tests : Layout → Bool → ℕ → Segment → List Bool
segment_tests l alone previous s =
    (not alone && leb s.end previous)
    ∷ ltb l.last s.end
    ∷ ltb 23 s.key
    ∷ ltb 1000 s.confidence
    ∷ []

-- a segment breaks a rule
unfoldable pub segment_broken : Layout → Bool → ℕ → Segment → Bool
segment_broken l alone previous s = any_of (segment_tests l alone previous s)

-- what stands before place i of a list; before the first, `start`
abbrev pub before : {A : Type 0} → A → (ℕ → A) → ℕ → A
before start at zero = start
before start at (suc i) = at i

-- segment i of several
abbrev pub card_segment : List Segment → ℕ → Segment
card_segment ss i = get_or ss i (record { end = 0; key = 0; confidence = 0 })

-- where segment i starts: at the end before it, and the first at 0
abbrev pub start_at : List Segment → ℕ → ℕ
start_at ss = before 0 (λ (k : ℕ). (card_segment ss k).end)

-- segment i breaks a rule
abbrev pub broken_at : Layout → List Segment → ℕ → Bool
broken_at l ss i = segment_broken l (eqb (length ss) 1) (start_at ss i) (card_segment ss i)

-- the first segment that does, or their count
abbrev pub first_broken : Layout → List Segment → ℕ
first_broken l ss = first (broken_at l ss) (length ss) 0

-- a meaning breaks the card rules
unfoldable pub card_broken : Layout → Meaning → Bool
card_broken l m = header_broken l m.header (length m.segments) || ltb (first_broken l m.segments) (length m.segments)

-- ---- which layout
-- the first of several layouts whose rules a meaning keeps
abbrev pub kept_in : List Layout → Meaning → Option Layout
kept_in [] m = None
kept_in (l ∷ ls) m = cond (card_broken l m) (kept_in ls m) (Some l)

-- the layout that a meaning is written in: layout 1 wherever that holds it
unfoldable pub layout_for : Meaning → Option Layout
layout_for m = kept_in layouts m

-- another layout than 1 for a meaning that layout 1 holds
unfoldable pub needless : Layout → Meaning → Bool
needless l m = not (eqb l.number layout1.number) && not (card_broken layout1 m)
