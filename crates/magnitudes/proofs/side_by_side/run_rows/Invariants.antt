-- A value of the frame a turn.
use Prim.Native.Nat.{ℕ, ◌-◌}
use lib.ListN.{length}
use mathlib.Core.Path.{◌≡◌}
use Rattle.laws.specs.Turns.{turns}
use Rattle.magnitudes.specs.Magnitudes.{frame_value}
use Rattle.magnitudes.specs.SideBySide.{DelayLists, delay_lists, stepped_rows, run_rows}
use Rattle.magnitudes.proofs.side_by_side.run_rows.Given as goal

abbrev pub invariant-loop-i : goal.invariant-loop-i
invariant-loop-i l = (turns (λ (j : ℕ) (d : DelayLists). stepped_rows l.coefficients (frame_value l.window l.samples l.start j) d) (length l.window - l.i) l.i (delay_lists l.last l.before) ≡ run_rows l.coefficients (frame_value l.window l.samples l.start) (length l.window) (delay_lists l.initial.last l.initial.before)) × (length l.last ≡ length l.initial.last) × (length l.before ≡ length l.initial.before)
