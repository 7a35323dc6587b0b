-- The code's table of tonics is the definition's, and the test gives the mode.
use borrow.Author.Tests.{lt-ltb, le-ltb}
use Rattle.keys.specs.Numbers.{tonics}
use Rattle.keys.proofs.numbers.key_from_index.Goals as goal

pub returns-then-index-lt12 : goal.returns-then-index-lt12
unfolding tonics
returns-then-index-lt12 c = rw (lt-ltb c.args.index 12 c.if-index-lt12.true)

pub returns-else-index-lt12 : goal.returns-else-index-lt12
unfolding tonics
returns-else-index-lt12 c = rw (le-ltb c.args.index 12 c.if-index-lt12.false)
