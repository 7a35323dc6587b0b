-- Four roots three times.
use Rattle.correlations.specs.inside.Lanes.{products_of, twelve}
use Rattle.correlations.proofs.correlation.products.Goals as goal

pub returns : goal.returns
unfolding products_of
returns c = λ k. twelve (c.sum_lanes-low.ensures k) (c.sum_lanes-middle.ensures k) (c.sum_lanes-high.ensures k)
