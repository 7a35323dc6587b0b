-- The whole thousandths of the same value, widened.
use mathlib.Core.Path.{ap, ◌∙◌}
use lib.Ieee.{Float}
use Rattle.packed.specs.Packing.{whole_times}
use Rattle.packed.proofs.thousandths.Goals as goal

pub returns : goal.returns
returns c = c.whole_times.ensures ∙ ap (λ (y : Float). whole_times y 1000 1000) c.widen.ensures
