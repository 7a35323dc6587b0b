-- All that an analysis is lent to write: frame rows, work numbers, estimates, segments. Definitions only.
use Rattle.std.specs.Prelude.{ℕ, List, Float}
use Rattle.calls.specs.Rows.{Rows, lent_rows}
use Rattle.timeline.specs.Estimates.{EstimateRows, lent_estimates}
use Rattle.timeline.specs.Segments.{SegmentRows, lent_segments}

-- the four kinds
pub record Lent : Type 0 where
  pub frames : Rows
  pub work : List Float
  pub estimates : EstimateRows
  pub segments : SegmentRows

-- the same, from its parts
abbrev pub lent : Rows → List Float → EstimateRows → SegmentRows → Lent
lent frames work estimates segments = record { frames = frames; work = work; estimates = estimates; segments = segments }

-- as a contract has it: what the references refer to
abbrev pub lent_all : List Float → List (List Float) → List Float → List Float → List Float → List ℕ → List Float → List ℕ → List Float → List Float → List ℕ → List Float → List ℕ → Lent
lent_all centres values energies work middles numbers certainties shapeless starts ends keys confidences counts =
    lent (lent_rows centres values energies) work (lent_estimates middles numbers certainties shapeless) (lent_segments starts ends keys confidences counts)
