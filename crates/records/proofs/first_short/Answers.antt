use Rattle.std.proofs.Common.{◌≡◌, false, true}
use Rattle.timeline.specs.Segments.{segment_at, short}
use Rattle.records.proofs.Places.{searched-start, searched-again, searched-out, searched-end}
use Rattle.records.proofs.first_short.Goals as goal

pub loop-i-init : goal.loop-i-init
loop-i-init c = searched-start c.requires

pub loop-i-preserved : goal.loop-i-preserved
loop-i-preserved c =
    let long : short c.args.least (segment_at c.args.records.now c.loop-i.i) ≡ false = cc in
    searched-again c.requires c.loop-i.invariant c.if-i-count.false long

pub returns-then-i-count : goal.returns-then-i-count
returns-then-i-count c = searched-end c.requires c.loop-i.invariant c.if-i-count.true

pub returns-then-is_short : goal.returns-then-is_short
returns-then-is_short c =
    let found : short c.args.least (segment_at c.args.records.now c.loop-i.i) ≡ true = cc in
    searched-out c.requires c.loop-i.invariant c.if-i-count.false found
