-- `x != x` tests for a NaN.
use mathlib.Core.Path.{ap, ◌∙◌}
use mathlib.Core.Bool.{not}
use lib.Ieee.{ne}
use Rattle.laws.proofs.Signs.{ne-self}
use Rattle.numbers.proofs.floats.is_nan.Goals as goal

pub returns : goal.returns
unfolding ne
returns g c = c.ne.ensures ∙ ap not (g.met.F.Floating.equal _ _) ∙ ne-self _
