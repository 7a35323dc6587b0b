-- Each return is a branch of the definition.
use borrow.Author.Tests.{lt-ltb, le-ltb}
use Rattle.ranks.specs.inside.Search.{pattern_of_key}
use Rattle.ranks.proofs.values.pattern_of_key.Goals as goal

pub returns-then-key-lt2147483648 : goal.returns-then-key-lt2147483648
unfolding pattern_of_key
returns-then-key-lt2147483648 c = rw (lt-ltb c.args.key 0x8000_0000 c.if-key-lt2147483648.true)

pub returns-else-key-lt2147483648 : goal.returns-else-key-lt2147483648
unfolding pattern_of_key
returns-else-key-lt2147483648 c = rw (le-ltb c.args.key 0x8000_0000 c.if-key-lt2147483648.false)
