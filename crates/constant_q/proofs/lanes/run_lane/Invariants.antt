-- A value a turn.
use Rattle.std.proofs.Common.{◌≡◌}
use Rattle.constant_q.specs.inside.Lanes.{lane_delay}
use Rattle.constant_q.proofs.lanes.run_lane.Given as goal

abbrev pub invariant-loop-i : goal.invariant-loop-i
invariant-loop-i l = l.state ≡ lane_delay l.samples l.windows l.lane l.i
