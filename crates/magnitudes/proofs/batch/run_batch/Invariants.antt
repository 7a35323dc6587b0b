-- A value of the frame a turn.
use Prim.Native.Nat.{ℕ, ◌-◌}
use mathlib.Core.Path.{◌≡◌}
use lib.ListN.{length}
use Rattle.laws.specs.Turns.{turns}
use Rattle.filters.specs.Four.{same_for_four, stepped_four, four_resonated}
use Rattle.filters.specs.declared.four.Four.{Four}
use Rattle.filters.specs.declared.resonator.Delay.{Delay}
use Rattle.magnitudes.specs.Magnitudes.{frame_value}
use Rattle.magnitudes.proofs.batch.run_batch.Given as goal

abbrev pub invariant-loop-i : goal.invariant-loop-i
invariant-loop-i l = turns (λ (j : ℕ) (d : Four Delay). stepped_four l.coefficients (same_for_four (frame_value l.window l.samples l.start j)) d) (length l.window - l.i) l.i l.delays ≡ four_resonated l.coefficients (λ (j : ℕ). same_for_four (frame_value l.window l.samples l.start j)) (length l.window)
