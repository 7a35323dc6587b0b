-- A batch a turn.
use Prim.Native.Nat.{ℕ, ◌*◌, ◌-◌}
use mathlib.Core.Path.{◌≡◌}
use mathlib.Core.List.{List}
use lib.ListN.{length}
use lib.Ieee.{Float}
use Rattle.laws.specs.Turns.{turns}
use Rattle.filters.specs.Four.{put_four}
use Rattle.magnitudes.specs.InFours.{coefficients_from, batch_powers, roots_of, put_batches}
use Rattle.magnitudes.proofs.batch.write_batches.Given as goal

abbrev pub invariant-loop-j : goal.invariant-loop-j
invariant-loop-j l = (turns (λ (i : ℕ) (r : List Float). put_four (roots_of (batch_powers l.window l.samples l.start (coefficients_from l.coefficients (4 * i)))) (4 * i) r) (l.batches - l.j) l.j l.room ≡ put_batches l.window l.coefficients l.samples l.start l.batches l.initial.room) × (length l.room ≡ length l.initial.room)
