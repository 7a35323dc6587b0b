-- The closure divides a sum by its divisor, and stays as it is.
use mathlib.Core.Path.{ap, ◌∙◌}
use mathlib.Core.List.{List}
use lib.Ieee.{Float}
use Rattle.std.proofs.Common.{rules}
use Rattle.laws.specs.Front.{list}
use Rattle.laws.proofs.FromFn.{list-from_fn}
use Rattle.correlations.specs.inside.Lanes.{quotient_at, turned_of}
use Rattle.correlations.proofs.correlation.correlations.Goals as goal

pub returns : goal.returns
unfolding turned_of
returns c =
    list-from_fn _ _ _ _ 12 (λ j y q l k. search rules) c.from_fn.ensures.items
    ∙ ap (λ (sums : List Float). list (quotient_at sums c.args.divisors.now) 12) c.products-sums.ensures
