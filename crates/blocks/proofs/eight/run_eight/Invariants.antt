-- A value of each lane a turn.
use mathlib.Core.Path.{◌≡◌}
use Rattle.blocks.specs.inside.Eight.{eight_delays}
use Rattle.blocks.proofs.eight.run_eight.Given as goal

abbrev pub invariant-loop-i : goal.invariant-loop-i
invariant-loop-i l = l.state ≡ eight_delays l.samples l.windows l.early l.late l.i
