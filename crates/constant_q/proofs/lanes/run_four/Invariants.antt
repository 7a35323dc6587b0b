-- A value of each lane a turn.
use Rattle.std.proofs.Common.{◌≡◌}
use Rattle.constant_q.specs.inside.Lanes.{four_delays}
use Rattle.constant_q.proofs.lanes.run_four.Given as goal

abbrev pub invariant-loop-i : goal.invariant-loop-i
invariant-loop-i l = l.delays ≡ four_delays l.samples l.windows l.lanes l.i
