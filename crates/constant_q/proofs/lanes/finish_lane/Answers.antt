-- The callees' definitions, put together.
use Rattle.std.proofs.Common.{refl}
use Rattle.constant_q.specs.inside.Lanes.{lane_power}
use Rattle.constant_q.proofs.lanes.finish_lane.Goals as goal

pub returns : goal.returns
unfolding lane_power
returns c = rw (c.power_per_count.ensures, c.run_lane-last.ensures) refl
