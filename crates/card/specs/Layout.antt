-- The layouts of a key card, and what a card says in packed numbers. Definitions only.
use Rattle.std.specs.Prelude.{cond, List, [], ◌∷◌, eqb, ℕ, max, ◌^◌, ◌<◌, ◌≤◌, Option, Some, None, unwrap_or}
use Rattle.card.specs.declared.layout.Layout.{Layout}
use Rattle.card.specs.declared.layout.Header.{Header}
use Rattle.card.specs.declared.layout.Segment.{Segment}

-- what a card says, in packed numbers
pub record Meaning : Type 0 where
  pub header : Header
  pub segments : List Segment

-- layout 1: 10 bits for the count and 24 for an end; at most 1,023 segments, none of which ends after 4 hours
abbrev pub layout1 : Layout
layout1 = record { number = 1; count = 10; end = 24; most = 1_023; last = 14_400_000 }

-- layout 2: 12 bits for the count and 27 for an end; at most 4,095 segments, none of which ends after a day
abbrev pub layout2 : Layout
layout2 = record { number = 2; count = 12; end = 27; most = 4_095; last = 86_400_000 }

-- the layouts that are known; a card is written in the first that holds it
abbrev pub layouts : List Layout
layouts = layout1 ∷ layout2 ∷ []

-- the largest that any of several layouts has of something
abbrev pub largest_of : (Layout → ℕ) → List Layout → ℕ
largest_of of [] = 0
largest_of of (l ∷ ls) = max (of l) (largest_of of ls)

-- the most segments of any card
abbrev pub most_segments : ℕ
most_segments = largest_of (λ (l : Layout). l.most) layouts

-- the last end of any card in ms
abbrev pub last_end : ℕ
last_end = largest_of (λ (l : Layout). l.last) layouts

-- the first of several layouts with a number
abbrev pub numbered_in : List Layout → ℕ → Option Layout
numbered_in [] number = None
numbered_in (l ∷ ls) number = cond (eqb number l.number) (Some l) (numbered_in ls number)

-- the layout that was found; where there is none, layout 1 stands in
abbrev pub layout_or1 : Option Layout → Layout
layout_or1 found = unwrap_or found layout1

-- the widths that the functions can put, and limits that fit them
pub record LayoutFits (l : Layout) : Type 0 where
  pub number : l.number < 2 ^ 4
  pub count : l.count ≤ 17
  pub end : l.end ≤ 41
  pub most : l.most < 2 ^ l.count
  pub last : l.last < 2 ^ l.end

-- a header's numbers fit their widths
pub record HeaderFits (l : Layout) (h : Header) (segments : ℕ) : Type 0 where
  pub key : h.key < 2 ^ 5
  pub dsp : h.dsp < 2 ^ 5
  pub alternate : h.alternate < 2 ^ 5
  pub coverage : h.coverage < 2 ^ 10
  pub confidence : h.confidence < 2 ^ 10
  pub count : segments < 2 ^ l.count

-- a segment's numbers fit their widths
pub record SegmentFits (l : Layout) (s : Segment) : Type 0 where
  pub end : s.end < 2 ^ l.end
  pub key : s.key < 2 ^ 5
  pub confidence : s.confidence < 2 ^ 10
