-- Four rows at a time, the odd ones singly: a batch puts the magnitudes that each of its rows has alone, so the room is written from the front.
use mathlib.Core.Path.{◌≡◌, sym, ap, subst}
use mathlib.Core.List.{List}
use Prim.Native.Nat.{ℕ, zero, suc, ◌+◌, ◌-◌, ◌*◌, ◌/◌, ◌≤◌}
use native.Mathlib.Omega.{arith}
use lib.ListN.{length, set}
use lib.Ieee.{Float}
use Rattle.laws.specs.Turns.{turns}
use Rattle.laws.proofs.Turns.{turns-keep}
use Rattle.laws.specs.Front.{front}
use Rattle.laws.proofs.Front.{Filled, filled-start, filled_more, filled-to}
use Rattle.filters.specs.Four.{same_for_four, put_four}
use Rattle.filters.specs.inside.Alone.{four_alone}
use Rattle.filters.proofs.Fours.{four-alone}
use Rattle.filters.proofs.Rooms.{filled-four}
use Rattle.filters.specs.declared.four.Four.{Four}
use Rattle.filters.specs.declared.resonator.Delay.{Delay}
use Rattle.magnitudes.specs.Magnitudes.{frame_value, row_magnitude, magnitudes_of}
use Rattle.magnitudes.specs.InFours.{coefficients_from, last_powers, batch_powers, roots_of, put_batches, put_singly, in_fours}

module _ (window coefficients samples : List Float) (start : ℕ) where
  abbrev magnitude : ℕ → Float
  magnitude = row_magnitude window coefficients samples start

  -- the roots of a batch are its four rows' own magnitudes
  batch-told : (k : ℕ) → roots_of (batch_powers window samples start (coefficients_from coefficients k)) ≡ record { a = magnitude k; b = magnitude (k + 1); c = magnitude (k + 2); d = magnitude (k + 3) }
  unfolding batch_powers row_magnitude four_alone
  batch-told k = let four = coefficients_from coefficients k in ap (λ (d : Four Delay). roots_of (last_powers four d)) (four-alone four (λ (i : ℕ). same_for_four (frame_value window samples start i)) (length window))

  abbrev batch : ℕ → List Float → List Float
  batch j r = put_four (roots_of (batch_powers window samples start (coefficients_from coefficients (4 * j)))) (4 * j) r

  abbrev single : ℕ → List Float → List Float
  single k r = set r k (magnitude k)

  module _ (room : List Float) where
    one_batch : (j : ℕ) (r : List Float) → (4 * j ≤ length room → Filled magnitude room r (4 * j)) → 4 * suc j ≤ length room → Filled magnitude room (batch j r) (4 * suc j)
    one_batch j r so_far h =
        let behind : 4 * j + 4 ≡ 4 * suc j = omega arith in
        subst (Filled magnitude room (batch j r)) behind (subst (λ (four : Four Float). Filled magnitude room (put_four four (4 * j) r) (4 * j + 4)) (sym (batch-told (4 * j))) (filled-four magnitude room r (4 * j) (so_far (omega arith)) (omega arith)))

    batches-filled : (batches : ℕ) → 4 * batches ≤ length room → Filled magnitude room (put_batches window coefficients samples start batches room) (4 * batches)
    unfolding put_batches
    batches-filled batches = turns-keep (λ (j : ℕ) (r : List Float). 4 * j ≤ length room → Filled magnitude room r (4 * j)) batch room (λ h. filled-start magnitude room) one_batch batches

    singly-filled : (count from : ℕ) (r : List Float) → Filled magnitude room r from → from + count ≤ length room → Filled magnitude room (turns single count from r) (from + count)
    unfolding turns
    singly-filled zero from r so_far h = let all : from ≡ from + 0 = omega arith in subst (Filled magnitude room r) all so_far
    singly-filled (suc count) from r so_far h =
        let all : from + 1 + count ≡ from + suc count = omega arith in
        subst (Filled magnitude room _) all (singly-filled count (from + 1) (single from r) (filled_more magnitude room r from so_far (omega arith)) (omega arith))

    -- the engine leaves the magnitudes of all rows
    pub in-fours-told : length coefficients ≤ length room → in_fours window coefficients samples start room ≡ front (magnitudes_of window coefficients samples start) room
    unfolding in_fours put_singly magnitudes_of
    in-fours-told h =
        let count = length coefficients in
        let batches = count / 4 in
        let whole : 4 * batches ≤ count = omega arith in
        let all : 4 * batches + (count - 4 * batches) ≡ count = omega arith in
        filled-to magnitude room _ (4 * batches + (count - 4 * batches)) count (singly-filled (count - 4 * batches) (4 * batches) _ (batches-filled batches (omega arith)) (omega arith)) all
