-- Estimates in lent rows: each column's entry is that of its estimate, so the keys are numbers of keys and the columns read back as what was put there.
use mathlib.Core.Path.{◌≡◌, sym, ap, ◌∙◌}
use mathlib.Core.List.{List, map}
use Prim.Native.Nat.{ℕ, ◌<◌}
use lib.ListN.{length, get_or}
use lib.Ieee.{nan}
use Rattle.laws.proofs.Front.{list_same, map-list, list-own}
use Rattle.laws.proofs.Column.{column-at}
use Rattle.keys.specs.Numbers.{key_number}
use Rattle.keys.proofs.Placed.{numbers-are-keys}
use Rattle.timeline.specs.Estimates.{EstimateRows, holding_estimates, no_estimate}
use Rattle.timeline.specs.inside.Estimates.{estimate_rows, columns_of, as_read, estimate_in, estimates_in, Numbered}
use Rattle.timeline.specs.declared.estimate.Estimate.{Estimate}

-- rows are the same where each column is
pub same_estimates : {a b : EstimateRows} → a.centres ≡ b.centres → a.keys ≡ b.keys → a.confidences ≡ b.confidences → a.shapeless ≡ b.shapeless → a ≡ b
same_estimates p q r s = λ i. estimate_rows (p i) (q i) (r i) (s i)

pub rows-numbered : (found : List Estimate) (before : EstimateRows) → Numbered (holding_estimates found before).keys (length found)
rows-numbered found before i h =
    rw (column-at (λ (e : Estimate). key_number e.key) found before.keys i 0 no_estimate h) (numbers-are-keys.below (get_or found i no_estimate).key)

pub rows-read-back : (found : List Estimate) (before : EstimateRows) → estimates_in (columns_of (holding_estimates found before)) (length found) ≡ map as_read found
unfolding estimate_in
rows-read-back found before =
    list_same (estimate_in (columns_of (holding_estimates found before))) (λ (i : ℕ). as_read (get_or found i no_estimate)) (length found) same
    ∙ sym (map-list as_read (λ (i : ℕ). get_or found i no_estimate) (length found))
    ∙ ap (map as_read) (list-own found no_estimate)
  where
    same : (i : ℕ) → i < length found → estimate_in (columns_of (holding_estimates found before)) i ≡ as_read (get_or found i no_estimate)
    same i h = rw (
      column-at (λ (e : Estimate). e.centre) found before.centres i nan no_estimate h,
      column-at (λ (e : Estimate). key_number e.key) found before.keys i 0 no_estimate h,
      column-at (λ (e : Estimate). e.confidence) found before.confidences i nan no_estimate h,
      numbers-are-keys.key_back (get_or found i no_estimate).key,
    )
