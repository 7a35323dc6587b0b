-- From a resonator at rest.
use Rattle.std.proofs.Common.{refl, arith}
use Rattle.laws.specs.Turns.{turns}
use Rattle.filters.specs.Resonator.{resonated}
use Rattle.constant_q.proofs.lanes.lane_power.Goals as goal

pub finish_lane-requires : goal.finish_lane-requires
unfolding resonated turns
finish_lane-requires c = (c.requires, omega arith, rw c.at_rest.ensures refl)
