-- The sums are the definition's.
use mathlib.Core.Path.{refl}
use Rattle.correlations.specs.inside.Lanes.{added_four}
use Rattle.correlations.proofs.lanes.add_products.Goals as goal

pub returns : goal.returns
unfolding added_four
returns c = refl
