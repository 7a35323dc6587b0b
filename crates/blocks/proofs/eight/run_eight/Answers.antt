-- A value of each lane a turn.
use native.Mathlib.Omega.{arith}
use mathlib.Core.Path.{◌≡◌, refl, ap, ◌∙◌}
use Rattle.laws.specs.Turns.{turns}
use Rattle.filters.specs.Resonator.{resonated}
use Rattle.filters.specs.inside.Alone.{four_alone}
use Rattle.constant_q.proofs.Resonators.{lanes-more}
use Rattle.blocks.specs.inside.Eight.{eight_delays}
use Rattle.blocks.proofs.eight.run_eight.Goals as goal

pub loop-i-init : goal.loop-i-init
unfolding eight_delays four_alone resonated turns
loop-i-init c = rw (c.four_at_rest-2.ensures, c.four_at_rest.ensures) refl

pub loop-i-preserved : goal.loop-i-preserved
unfolding eight_delays
loop-i-preserved c =
    let turn = c.loop-i in
    let a = c.args in
    let e = lanes-more a.samples.now a.windows.now a.early turn.i in
    let l = lanes-more a.samples.now a.windows.now a.late turn.i in
    rw (c.step_lanes-in-loop-i.ensures, c.step_lanes.ensures, turn.invariant, e, l) refl

pub returns : goal.returns
returns c =
    let last = c.loop-i in
    let a = c.args in
    let e : last.i ≡ a.n = omega arith in
    last.invariant ∙ ap (eight_delays a.samples.now a.windows.now a.early a.late) e
