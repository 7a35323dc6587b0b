-- The closure takes the mean from a value, and stays as it is.
use Rattle.std.proofs.Common.{rules}
use Rattle.laws.proofs.FromFn.{list-from_fn}
use Rattle.correlations.specs.inside.Deviations.{deviations_of}
use Rattle.correlations.proofs.deviations.deviations.Goals as goal

pub returns : goal.returns
unfolding deviations_of
returns c = list-from_fn _ _ _ _ 12 (λ j y q l k. search rules) c.from_fn.ensures.items
