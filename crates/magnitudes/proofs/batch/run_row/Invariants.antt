-- A value of the frame a turn.
use Prim.Native.Nat.{ℕ, ◌-◌}
use mathlib.Core.Path.{◌≡◌}
use lib.ListN.{length}
use Rattle.laws.specs.Turns.{turns}
use Rattle.filters.specs.Resonator.{stepped_of, resonated}
use Rattle.filters.specs.declared.resonator.Delay.{Delay}
use Rattle.magnitudes.specs.Magnitudes.{frame_value}
use Rattle.magnitudes.proofs.batch.run_row.Given as goal

abbrev pub invariant-loop-i : goal.invariant-loop-i
invariant-loop-i l = turns (λ (j : ℕ) (d : Delay). stepped_of l.coefficient (frame_value l.window l.samples l.start j) d) (length l.window - l.i) l.i l.delay ≡ resonated l.coefficient (frame_value l.window l.samples l.start) (length l.window)
