-- What a run through the positions left: rows with room for all its frames, no more than there are positions.
use Prim.Native.Nat.{ℕ, zero, suc, ◌≤◌}
use mathlib.Core.Path.{◌≡◌, sym, ap, subst, ◌∙◌}
use mathlib.Core.Bool.{Bool, true, false, cond}
use mathlib.Core.List.{[], ◌∷◌, ◌++◌}
use native.Mathlib.Omega.{arith}
use lib.Dec.{ltb}
use lib.ListN.{length, length-append}
use Rattle.std.specs.Prelude.{Ok, Err}
use Rattle.laws.proofs.Column.{column_fits}
use Rattle.laws.specs.First.{first}
use Rattle.laws.proofs.First.{first-within}
use Rattle.calls.specs.Call.{Call}
use Rattle.calls.specs.Rows.{Rows}
use Rattle.one_frame.specs.Frame.{loud}
use Rattle.frames.specs.Run.{energy_at, frame_row, not_finite_at, loud_before, stop_at}
use Rattle.frames.specs.inside.Rows.{not_finite, Filled, Run, ran, run_of}
use Rattle.one_frame.specs.declared.frame.Row.{Row}

-- so many frames, at most one to a position, have their place in the rows
pub record Left (positions n : ℕ) (now : Rows) : Type 0 where
  pub few : n ≤ positions
  pub centres : n ≤ length now.centres
  pub values : n ≤ length now.values
  pub energies : n ≤ length now.energies

loud-few : (c : Call) (k : ℕ) → length (loud_before c k) ≤ k
unfolding loud_before
loud-few c zero = omega arith
loud-few c (suc k) = either (loud (energy_at c k)) (loud-few c k)
  where
    either : (b : Bool) → length (loud_before c k) ≤ k → length (cond b (loud_before c k ++ (frame_row c k ∷ [])) (loud_before c k)) ≤ suc k
    either true h = simp length-append (omega (arith, h))
    either false h = omega (arith, h)

-- how many frames an answer says
abbrev count_of : Filled → ℕ
count_of (Ok n) = n
count_of (Err stop) = stop.count

either-count : (b : Bool) (k n : ℕ) → count_of (cond b (Err (not_finite k n)) (Ok n)) ≡ n
either-count true k n = cc
either-count false k n = cc

pub run-left : (c : Call) (positions : ℕ) (before : Rows) {n : ℕ} {now : Rows} → ran (Ok n) now ≡ run_of c positions before → Left positions n now
unfolding run_of stop_at
run-left c positions before {n} {now} e =
    let k = first (not_finite_at c) positions 0 in
    let found = loud_before c k in
    let count : n ≡ length found = ap (λ (r : Run). count_of r.answer) e ∙ either-count (ltb k positions) k (length found) in
    let within = first-within (not_finite_at c) positions 0 in
    let few = loud-few c k in
    subst (λ (r : Rows). Left positions n r) (sym (ap (λ (r : Run). r.rows) e))
    (record {
      few = omega (arith, count, within, few);
      centres = let most = column_fits (λ (r : Row). r.centre) found before.centres in omega (arith, count, most);
      values = let most = column_fits (λ (r : Row). r.values) found before.values in omega (arith, count, most);
      energies = let most = column_fits (λ (r : Row). r.energy) found before.energies in omega (arith, count, most);
    })
