-- How many windows segments rest on together. Definitions only.
use Rattle.std.specs.Prelude.{ℕ, ◌+◌, List, [], ◌∷◌}
use Rattle.timeline.specs.declared.segment.Segment.{Segment}

-- the sum of their counts
unfoldable pub total_windows : List Segment → ℕ
total_windows [] = 0
total_windows (s ∷ r) = s.windows + total_windows r
