-- The run's start, a turn and its end are laws of `Runs`; the rows keep their slices.
use Rattle.std.proofs.Common.{arith, rules}
use lib.Ieee.{of_bits}
use Rattle.windows.proofs.Runs.{reached-known, reached-start, reached-again, reached-end}
use Rattle.windows.proofs.run.fill_estimates.Goals as goal

pub loop-init : goal.loop-init
unfolding of_bits
loop-init c = (search rules, reached-start c.args.span c.requires c.look_ahead-ahead.ensures)

pub skip_frames-ahead-requires : goal.skip_frames-ahead-requires
skip_frames-ahead-requires c = let r = c.loop.invariant.1 in omega (arith, r.known.count, r.ready.timed)

pub write_window-n-requires : goal.write_window-n-requires
write_window-n-requires c =
    let r = c.loop.invariant.1 in
    let inside = c.loop-test.true in
    let known = reached-known r c.skip_frames-ahead.ensures in (
      omega (arith, known.count, r.ready.timed),
      omega (arith, known.count, r.ready.valued),
      known,
      omega (arith, inside, r.holds.few, r.holds.centres.long, r.ready.centres),
      omega (arith, inside, r.holds.few, r.holds.keys.long, r.ready.keys),
      omega (arith, inside, r.holds.few, r.holds.confidences.long, r.ready.confidences),
      omega (arith, inside, r.holds.few, r.holds.shapeless.long, r.ready.shapeless),
    )

pub loop-preserved : goal.loop-preserved
loop-preserved c = (search rules, reached-again c.loop.invariant.1 c.skip_frames-ahead.ensures c.loop-test.true c.write_window-n.ensures.written)

pub returns-clause-same_slices : goal.returns-clause-same_slices
returns-clause-same_slices c = c.loop.invariant.0

pub returns-clause-written : goal.returns-clause-written
returns-clause-written c = reached-end c.loop.invariant.1 c.loop-test.false
