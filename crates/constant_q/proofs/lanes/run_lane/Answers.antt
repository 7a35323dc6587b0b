-- A value a turn.
use Rattle.std.proofs.Common.{◌≡◌, ap, ◌∙◌, arith}
use Rattle.constant_q.specs.inside.Lanes.{lane_delay}
use Rattle.constant_q.proofs.Resonators.{lane-more}
use Rattle.constant_q.proofs.lanes.run_lane.Goals as goal

pub loop-i-preserved : goal.loop-i-preserved
loop-i-preserved c = let a = c.args in rw (c.step-state.ensures, c.lane_value-x.ensures, c.loop-i.invariant) (lane-more a.samples.now a.windows.now a.lane c.loop-i.i)

pub returns : goal.returns
returns c = let last = c.loop-i in let a = c.args in let e : last.i ≡ a.lane.count = omega arith in last.invariant ∙ ap (lane_delay a.samples.now a.windows.now a.lane) e
