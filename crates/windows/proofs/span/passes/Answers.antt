-- The start is window k's at every turn, so the loop's test is the definition's.
use mathlib.Core.Bool.{not}
use mathlib.Core.Path.{◌≡◌, ap, ◌∙◌}
use Rattle.std.proofs.Common.{arith}
use lib.Ieee.{of_bits}
use Rattle.laws.proofs.First.{first_start, first-again, first_out, first-end}
use Rattle.windows.specs.Span.{ends_at, budget_for, windows_within}
use Rattle.calls.specs.Call.{longest_track}
use Rattle.windows.proofs.Starts.{start_first, start-next, ends-here}
use Rattle.windows.proofs.span.passes.Goals as goal

pub loop-k-init : goal.loop-k-init
unfolding of_bits windows_within
loop-k-init c = (start_first c.args.span, first_start (ends_at c.args.span) (budget_for longest_track))

pub returns-then-not-start-span : goal.returns-then-not-start-span
returns-then-not-start-span c =
    let turn = c.loop-k in
    let span = c.args.span in
    first_out (ends_at span) (budget_for longest_track) turn.k turn.invariant.1 c.loop-k-test.true (ends-here span turn.k turn.invariant.0 (ap not c.if-not-start-span.true))

pub loop-k-preserved : goal.loop-k-preserved
unfolding of_bits
loop-k-preserved c =
    let turn = c.loop-k in
    let span = c.args.span in
    (start-next span turn.k turn.invariant.0, first-again (ends_at span) (budget_for longest_track) turn.k turn.invariant.1 c.loop-k-test.true (ends-here span turn.k turn.invariant.0 (ap not c.if-not-start-span.false)))

pub returns : goal.returns
returns c =
    let all : budget_for longest_track ≡ c.loop-k.k = omega (arith, c.loop-k.auto.k-end, c.loop-k-test.false) in
    all ∙ first-end (ends_at c.args.span) (budget_for longest_track) c.loop-k.k c.loop-k.invariant.1 c.loop-k-test.false
