-- A row a turn: each law stands in `Empties`; the rows keep their slices.
use Rattle.std.proofs.Common.{rules}
use Rattle.shortening.proofs.Empties.{emptying-start, emptying-room, emptying-more, emptying-end}
use Rattle.shortening.proofs.shorten.empty_rows.Goals as goal

pub loop-i-init : goal.loop-i-init
loop-i-init c = (search rules, emptying-start _ c.requires.0 c.requires.1)

pub put-requires : goal.put-requires
put-requires c = emptying-room c.loop-i.invariant.1 c.loop-i-test.true

pub loop-i-preserved : goal.loop-i-preserved
loop-i-preserved c = (search rules, emptying-more c.loop-i.invariant.1 c.loop-i-test.true c.emptied.ensures c.put.ensures.rows)

pub returns-clause-emptied : goal.returns-clause-emptied
returns-clause-emptied c = emptying-end c.loop-i.invariant.1 c.loop-i-test.false
