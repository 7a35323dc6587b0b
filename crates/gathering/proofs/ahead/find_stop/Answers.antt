-- All frames where the centres do not rise; else the loop's invariant: the search goes on from i.
use mathlib.Core.Bool.{not}
use mathlib.Core.Path.{refl, ap}
use borrow.Author.Tests.{not-true, not-false}
use Rattle.laws.proofs.First.{first-again, first_out}
use Rattle.gathering.proofs.Searches.{first-end-from}
use Rattle.gathering.specs.inside.Ahead.{is_past, stop_of}
use Rattle.gathering.proofs.ahead.find_stop.Goals as goal

pub returns-then-not-ahead : goal.returns-then-not-ahead
unfolding stop_of
returns-then-not-ahead c = rw (not-true c.args.ahead.rising c.if-not-ahead.true)

pub loop-i-init : goal.loop-i-init
loop-i-init c = refl

pub returns-then-not-centres-i : goal.returns-then-not-centres-i
unfolding stop_of
returns-then-not-centres-i c =
    let args = c.args in
    rw (not-false args.ahead.rising c.if-not-ahead.false) (first_out (is_past args.centres.now args.end) args.ahead.frames c.loop-i.i c.loop-i.invariant c.loop-i-test.true (ap not c.if-not-centres-i.true))

pub loop-i-preserved : goal.loop-i-preserved
loop-i-preserved c =
    let args = c.args in
    first-again (is_past args.centres.now args.end) args.ahead.frames c.loop-i.i c.loop-i.invariant c.loop-i-test.true (ap not c.if-not-centres-i.false)

pub returns : goal.returns
unfolding stop_of
returns c =
    let args = c.args in
    rw (not-false args.ahead.rising c.if-not-ahead.false) (first-end-from (is_past args.centres.now args.end) args.ahead.frames args.ahead.from c.loop-i.i c.loop-i.invariant c.loop-i-test.false c.loop-i.auto.i-end c.max.ensures)
