-- A row a turn.
use Prim.Native.Nat.{ℕ, ◌-◌}
use mathlib.Core.Path.{◌≡◌}
use mathlib.Core.List.{List}
use lib.ListN.{length, set}
use lib.Ieee.{Float}
use Rattle.laws.specs.Turns.{turns}
use Rattle.magnitudes.specs.Magnitudes.{row_magnitude}
use Rattle.magnitudes.specs.InFours.{put_singly}
use Rattle.magnitudes.proofs.batch.write_singly.Given as goal

abbrev pub invariant-loop-k : goal.invariant-loop-k
invariant-loop-k l = (turns (λ (i : ℕ) (r : List Float). set r i (row_magnitude l.window l.coefficients l.samples l.start i)) (length l.coefficients - l.k) l.k l.room ≡ put_singly l.window l.coefficients l.samples l.start l.from l.initial.room) × (length l.room ≡ length l.initial.room)
