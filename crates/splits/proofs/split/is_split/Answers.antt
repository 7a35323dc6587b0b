-- Two tests of what the calls read, joined.
use Rattle.keys.proofs.Equal.{equal-by-number}
use Rattle.splits.specs.Splits.{splits}
use Rattle.splits.specs.inside.Columns.{splits_in}
use Rattle.splits.proofs.split.is_split.Goals as goal

pub returns : goal.returns
unfolding splits_in splits
returns c = rw (c.ne.ensures, equal-by-number c.stored_key-key.result c.stored_key-other.result, c.stored_key-other.ensures, c.stored_key-key.ensures)
