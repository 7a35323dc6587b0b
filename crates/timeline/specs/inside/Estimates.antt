-- Estimates put into lent rows, and read from those columns that segments are made of. No promise names it. Definitions only.
use Rattle.std.specs.Prelude.{ℕ, ◌^◌, ◌<◌, ◌≤◌, false, List, length, get_or, set, Float}
use Rattle.std.specs.Float.{nan}
use Rattle.laws.specs.Front.{list}
use Rattle.numbers.specs.Flags.{one_if}
use Rattle.keys.specs.declared.Key.{Key}
use Rattle.keys.specs.Numbers.{key_number, key_at}
use Rattle.timeline.specs.Estimates.{EstimateRows}
use Rattle.timeline.specs.declared.estimate.Estimate.{Estimate}

-- ---- put into rows
-- rows of estimates, from their slices
abbrev pub estimate_rows : List Float → List ℕ → List Float → List ℕ → EstimateRows
estimate_rows centres keys confidences shapeless = record { centres = centres; keys = keys; confidences = confidences; shapeless = shapeless }

-- the rows with one estimate put into place n
abbrev pub put_estimate : Estimate → ℕ → EstimateRows → EstimateRows
put_estimate e n r =
    estimate_rows (set r.centres n e.centre) (set r.keys n (key_number e.key)) (set r.confidences n e.confidence) (set r.shapeless n (one_if e.shapeless))

-- ---- read from columns
-- the columns that segments are made of
pub record Columns : Type 0 where
  pub centres : List Float
  pub keys : List ℕ
  pub confidences : List Float

-- the same, from their slices
abbrev pub columns : List Float → List ℕ → List Float → Columns
columns centres keys confidences = record { centres = centres; keys = keys; confidences = confidences }

-- as a contract has it: what the references refer to
abbrev pub lent_columns : List Float → List ℕ → List Float → Columns
lent_columns centres keys confidences = columns centres keys confidences

-- those of whole rows
abbrev pub columns_of : EstimateRows → Columns
columns_of r = columns r.centres r.keys r.confidences

-- an estimate of which nothing else is known: the columns do not say whether its chroma has no shape
abbrev pub estimate_read : Float → Key → Float → Estimate
estimate_read centre key confidence = record { centre = centre; key = key; confidence = confidence; shapeless = false }

-- an estimate as far as segments read it
abbrev pub as_read : Estimate → Estimate
as_read e = estimate_read e.centre e.key e.confidence

-- the estimate in row i, so far
unfoldable pub estimate_in : Columns → ℕ → Estimate
estimate_in c i = estimate_read (get_or c.centres i nan) (key_at (get_or c.keys i 0)) (get_or c.confidences i nan)

-- the estimates in the first rows
abbrev pub estimates_in : Columns → ℕ → List Estimate
estimates_in c count = list (estimate_in c) count

-- each of the first keys is a key's number
abbrev pub Numbered : List ℕ → ℕ → Type 0
Numbered keys count = (i : ℕ) → i < count → get_or keys i 0 < 24

-- so many estimates are there, with a key's number each
pub record Found (c : Columns) (count : ℕ) : Type 0 where
  pub centres : count ≤ length c.centres
  pub keys : count ≤ length c.keys
  pub confidences : count ≤ length c.confidences
  pub numbered : Numbered c.keys count
  pub few : count < 2 ^ 32
