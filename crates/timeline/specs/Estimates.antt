-- Estimates in lent rows, four slices side by side with keys by number, and centres that rise. Definitions only.
use Rattle.std.specs.Prelude.{ℕ, ◌+◌, ◌<◌, false, List, [], ◌∷◌, map, length, get_or, T, Float}
use Rattle.std.specs.Float.{nan, binary64}
use Rattle.std.specs.Float.Ieee.{le}
use Rattle.laws.specs.Front.{front, shortest}
use Rattle.laws.specs.Values.{Modest}
use Rattle.numbers.specs.Flags.{one_if}
use Rattle.keys.specs.Numbers.{key_number, key_at}
use Rattle.timeline.specs.declared.estimate.Estimate.{Estimate}

-- rows of estimates
pub record EstimateRows : Type 0 where
  pub centres : List Float
  pub keys : List ℕ
  pub confidences : List Float
  pub shapeless : List ℕ

-- as a contract has it: what the references refer to
abbrev pub lent_estimates : List Float → List ℕ → List Float → List ℕ → EstimateRows
lent_estimates centres keys confidences shapeless = record { centres = centres; keys = keys; confidences = confidences; shapeless = shapeless }

-- the rows once those found stand in the first places
abbrev pub holding_estimates : List Estimate → EstimateRows → EstimateRows
holding_estimates found before =
    record {
      centres = front (map (λ (e : Estimate). e.centre) found) before.centres;
      keys = front (map (λ (e : Estimate). key_number e.key) found) before.keys;
      confidences = front (map (λ (e : Estimate). e.confidence) found) before.confidences;
      shapeless = front (map (λ (e : Estimate). one_if e.shapeless) found) before.shapeless;
    }

-- how many rows there are
abbrev pub estimate_room : EstimateRows → ℕ
estimate_room r = shortest (length r.centres) (length r.keys ∷ length r.confidences ∷ length r.shapeless ∷ [])

-- what stands for an estimate where there is none
abbrev pub no_estimate : Estimate
no_estimate = record { centre = nan; key = key_at 0; confidence = nan; shapeless = false }

-- the centre of estimate i
abbrev pub centre_at : List Estimate → ℕ → Float
centre_at found i = (get_or found i no_estimate).centre

-- each centre is a time far from the overflow, none is before the one before it, and none is after `high`
pub record Rising (high : Float) (found : List Estimate) : Type 0 where
  pub modest : (i : ℕ) → i < length found → Modest binary64 (centre_at found i)
  pub upward : (i : ℕ) → i + 1 < length found → T (le (centre_at found i) (centre_at found (i + 1)))
  pub inside : (i : ℕ) → i < length found → T (le (centre_at found i) high)
