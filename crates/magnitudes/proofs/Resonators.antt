-- All rows' resonators side by side: a turn puts one row's values into their places, and each resonator ends as it would alone.
use mathlib.Core.Path.{◌≡◌, sym, ap, subst, ◌∙◌}
use mathlib.Core.List.{List}
use Prim.Native.Nat.{ℕ, suc, ◌+◌, ◌<◌, ◌≤◌}
use native.Mathlib.Nat.{le_refl}
use native.Mathlib.Numerals.{add-one}
use native.Mathlib.Omega.{arith}
use lib.ListN.{length, get_or, set, get_or-replicate}
use lib.Ieee.{Float, nan}
use Rattle.laws.specs.Turns.{turns}
use Rattle.laws.proofs.Turns.{turns-last, turns-keep}
use Rattle.laws.specs.Front.{front}
use Rattle.laws.specs.Values.{plus_zero}
use Rattle.laws.proofs.Front.{Filled, filled_more, filled-rest, filled-to, list_same, get_d_front}
use Rattle.filters.specs.Resonator.{stepped_of, at_rest, resonated}
use Rattle.filters.specs.declared.resonator.Delay.{Delay}
use Rattle.magnitudes.specs.Magnitudes.{frame_value, last_magnitude, row_magnitude, magnitudes_of}
use Rattle.magnitudes.specs.SideBySide.{DelayLists, delay_lists, delay_at, stepped_at, stepped_rows, run_rows, last_magnitudes, resting, side_by_side}

-- ---- one value more, a row a turn
module _ (coefficients : List Float) (x : Float) (last₀ before₀ : List Float) where
  -- row k's resonator, from the values that stood there at first
  abbrev pub fresh : ℕ → Delay
  fresh k = stepped_at coefficients x (delay_lists last₀ before₀) k

  -- the first k rows have had their turn
  abbrev pub Stepped : List Float → List Float → ℕ → Type 0
  Stepped last before k = Filled (λ (j : ℕ). (fresh j).last) last₀ last k × Filled (λ (j : ℕ). (fresh j).before) before₀ before k

  module _ {last before : List Float} (k : ℕ) (so_far : Stepped last before k) where
    -- a row that has not had its turn has its values still
    kept : stepped_at coefficients x (delay_lists last before) k ≡ fresh k
    kept = rw (filled-rest _ last₀ last k k nan so_far.0 (le_refl k), filled-rest _ before₀ before k k nan so_far.1 (le_refl k))

    pub row-stepped : {d : Delay} → d ≡ stepped_at coefficients x (delay_lists last before) k → k < length last₀ → k < length before₀ → Stepped (set last k d.last) (set before k d.before) (k + 1)
    row-stepped e h g =
        subst (λ (d : Delay). Stepped (set last k d.last) (set before k d.before) (k + 1)) (sym (e ∙ kept))
        (filled_more _ last₀ last k so_far.0 h, filled_more _ before₀ before k so_far.1 g)

    pub rows-stepped : k ≡ length coefficients → delay_lists last before ≡ stepped_rows coefficients x (delay_lists last₀ before₀)
    unfolding stepped_rows
    rows-stepped e = rw (filled-to _ last₀ last k (length coefficients) so_far.0 e, filled-to _ before₀ before k (length coefficients) so_far.1 e)

-- ---- row k's resonator among the others
module _ (coefficients : List Float) (values : ℕ → Float) (k : ℕ) (h : k < length coefficients) where
  step-alone : (x : Float) (d : DelayLists) → delay_at (stepped_rows coefficients x d) k ≡ stepped_at coefficients x d k
  unfolding stepped_rows
  step-alone x d =
      let n = length coefficients in
      rw (get_d_front (λ (j : ℕ). (stepped_at coefficients x d j).last) n d.last k nan h, get_d_front (λ (j : ℕ). (stepped_at coefficients x d j).before) n d.before k nan h)

  abbrev turn : ℕ → Delay → Delay
  turn i d = stepped_of (get_or coefficients k nan) (values i) d

  one_more : (i : ℕ) (d : DelayLists) → delay_at d k ≡ turns turn i 0 at_rest → delay_at (stepped_rows coefficients (values i) d) k ≡ turns turn (suc i) 0 at_rest
  one_more i d e = step-alone (values i) d ∙ ap (turn i) e ∙ sym (turns-last turn i at_rest) ∙ ap (λ (n : ℕ). turns turn n 0 at_rest) (add-one i)

  run_alone : (n : ℕ) (d : DelayLists) → delay_at d k ≡ at_rest → delay_at (run_rows coefficients values n d) k ≡ resonated (get_or coefficients k nan) values n
  unfolding run_rows resonated turns
  run_alone n d rest = turns-keep (λ (i : ℕ) (s : DelayLists). delay_at s k ≡ turns turn i 0 at_rest) (λ (i : ℕ) (s : DelayLists). stepped_rows coefficients (values i) s) d rest one_more n

-- ---- from rest
at_rest_lem : (k : ℕ) → k < 256 → delay_at resting k ≡ at_rest
at_rest_lem k h = rw (get_or-replicate 256 k plus_zero nan h)

-- the magnitudes of the rows side by side are those of each alone
pub side-by-side-told : (window coefficients samples : List Float) (start : ℕ) (room : List Float) → length coefficients ≤ 256 → side_by_side window coefficients samples start room ≡ front (magnitudes_of window coefficients samples start) room
unfolding side_by_side last_magnitudes magnitudes_of row_magnitude
side-by-side-told window coefficients samples start room h =
    let value = frame_value window samples start in
    ap (λ (l : List Float). front l room)
    (list_same _ _ (length coefficients) (λ (k : ℕ) (l : k < length coefficients). ap (last_magnitude (get_or coefficients k nan)) (run_alone coefficients value k l (length window) resting (at_rest_lem k (omega arith)))))
