-- The tests stand in the definition's order.
use Rattle.card.specs.Rules.{header_broken}
use Rattle.card.proofs.rules.header_broken.Goals as goal

pub returns : goal.returns
unfolding header_broken
returns c = rw (c.only_one-2.ensures, c.only_one.ensures)
