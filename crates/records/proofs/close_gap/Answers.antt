use Rattle.records.proofs.Gap.{closing-more, closing_end}
use Rattle.records.proofs.close_gap.Goals as goal

pub loop-j-preserved : goal.loop-j-preserved
loop-j-preserved c = rw c.copy_down.ensures (closing-more c.loop-j.invariant c.requires.1 c.loop-j-test.true)

pub returns : goal.returns
returns c =
    let closed = closing_end c.loop-j.invariant c.requires.1 c.loop-j-test.false in
    cc
