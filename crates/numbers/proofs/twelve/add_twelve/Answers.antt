-- The closure adds two values, and stays as it is.
use Rattle.std.proofs.Common.{rules}
use Rattle.laws.proofs.FromFn.{list-from_fn}
use Rattle.numbers.specs.Sum.{added_each}
use Rattle.numbers.proofs.twelve.add_twelve.Goals as goal

pub returns : goal.returns
unfolding added_each
returns c = list-from_fn _ _ _ _ 12 (λ j y q l k. search rules) c.from_fn.ensures.items
