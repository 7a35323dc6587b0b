-- The turns that are left lead from the best so far to the longest.
use mathlib.Core.Path.{ap, ◌∙◌}
use Prim.Native.Nat.{◌-◌}
use Rattle.laws.specs.Turns.{turns}
use Rattle.laws.proofs.Turns.{turns-again, turns-end}
use Rattle.timeline.specs.Segments.{segment_at}
use Rattle.timeline.specs.inside.Segments.{lent_stretches, stretches_in}
use Rattle.longest.proofs.Rows.{read_at, rows_start}
use Rattle.longest.specs.Longest.{longer, longest_turn, longest_of}
use Rattle.longest.proofs.longest.longest_segment.Goals as goal

pub loop-i-init : goal.loop-i-init
unfolding longest_of
loop-i-init c =
    let segments = stretches_in ((lent_stretches c.args.starts.now c.args.ends.now c.args.keys.now)) c.args.count in
    let first = read_at ((lent_stretches c.args.starts.now c.args.ends.now c.args.keys.now)) c.args.count 0 c.requires.0 c.stretch_at-best.ensures in
    ap (turns (longest_turn segments) (c.args.count - 0) 0) first ∙ rows_start ((lent_stretches c.args.starts.now c.args.ends.now c.args.keys.now)) c.args.count (longest_turn segments) (segment_at segments 0)

pub loop-i-preserved : goal.loop-i-preserved
loop-i-preserved c =
    let i = c.loop-i.i in
    let inside = c.loop-i-test.true in
    let told = c.longer_of-best.ensures ∙ ap (longer c.loop-i.best) (read_at ((lent_stretches c.args.starts.now c.args.ends.now c.args.keys.now)) c.args.count i inside c.stretch_at.ensures) in
    turns-again (longest_turn (stretches_in ((lent_stretches c.args.starts.now c.args.ends.now c.args.keys.now)) c.args.count)) c.args.count i c.loop-i.invariant inside told

pub returns : goal.returns
returns c = turns-end (longest_turn (stretches_in ((lent_stretches c.args.starts.now c.args.ends.now c.args.keys.now)) c.args.count)) c.args.count c.loop-i.i c.loop-i.invariant c.loop-i-test.false
