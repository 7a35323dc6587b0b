-- The definition, read off.
use borrow.Author.Rules.{rules}
use lib.Ieee.{of_bits, add, div}
use Rattle.splits.specs.Splits.{border_of}
use Rattle.splits.specs.inside.Columns.{border_in}
use Rattle.splits.proofs.split.border_in_rows.Goals as goal

pub returns : goal.returns
unfolding border_in border_of of_bits add div
returns c = search rules
