-- A value of each lane a turn.
use Rattle.std.proofs.Common.{◌≡◌, refl, ap, ◌∙◌, arith}
use Rattle.laws.specs.Turns.{turns}
use Rattle.filters.specs.Resonator.{resonated}
use Rattle.filters.specs.inside.Alone.{four_alone}
use Rattle.constant_q.specs.inside.Lanes.{four_delays}
use Rattle.constant_q.proofs.Resonators.{lanes-more}
use Rattle.constant_q.proofs.lanes.run_four.Goals as goal

pub loop-i-init : goal.loop-i-init
unfolding four_alone resonated turns
loop-i-init c = rw c.four_at_rest-delays.ensures refl

pub loop-i-preserved : goal.loop-i-preserved
loop-i-preserved c = let a = c.args in rw (c.step_lanes-delays.ensures, c.loop-i.invariant) (lanes-more a.samples.now a.windows.now a.lanes c.loop-i.i)

pub returns : goal.returns
returns c = let last = c.loop-i in let a = c.args in let e : last.i ≡ a.n = omega arith in last.invariant ∙ ap (four_delays a.samples.now a.windows.now a.lanes) e
