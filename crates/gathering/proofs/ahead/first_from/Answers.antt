-- The loop's invariant: the search goes on from i.
use mathlib.Core.Path.{refl}
use Rattle.laws.proofs.First.{first-again, first_out}
use Rattle.gathering.proofs.Searches.{first-end-from}
use Rattle.gathering.specs.inside.Ahead.{is_from, first_from}
use Rattle.gathering.proofs.ahead.first_from.Goals as goal

pub loop-i-init : goal.loop-i-init
loop-i-init c = refl

pub returns-then-start-centres : goal.returns-then-start-centres
unfolding first_from
returns-then-start-centres c =
    let args = c.args in
    first_out (is_from args.centres.now args.start) args.ahead.frames c.loop-i.i c.loop-i.invariant c.loop-i-test.true c.if-start-centres.true

pub loop-i-preserved : goal.loop-i-preserved
loop-i-preserved c =
    let args = c.args in
    first-again (is_from args.centres.now args.start) args.ahead.frames c.loop-i.i c.loop-i.invariant c.loop-i-test.true c.if-start-centres.false

pub returns : goal.returns
unfolding first_from
returns c =
    let args = c.args in
    first-end-from (is_from args.centres.now args.start) args.ahead.frames args.ahead.from c.loop-i.i c.loop-i.invariant c.loop-i-test.false c.loop-i.auto.i-end c.max.ensures
