-- The closure divides one value, and stays as it is.
use Rattle.std.proofs.Common.{rules}
use Rattle.laws.proofs.FromFn.{list-from_fn}
use Rattle.filters.specs.Classes.{divided_by_class}
use Rattle.filters.proofs.classes.divide_by_weights.Goals as goal

pub returns : goal.returns
unfolding divided_by_class
returns c = list-from_fn _ _ _ _ 12 (λ j y q l k. search rules) c.from_fn.ensures.items
