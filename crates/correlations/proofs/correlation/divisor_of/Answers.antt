-- The callees' definitions, put together.
use mathlib.Core.Path.{◌≡◌, ap, ◌∙◌}
use mathlib.Core.Bool.{not}
use lib.Ieee.{Float, of_bits, le}
use Rattle.laws.specs.Values.{epsilon}
use Rattle.laws.specs.Pick.{maximum_number}
use Rattle.correlations.specs.Correlation.{held_up}
use Rattle.correlations.specs.inside.Divisors.{held_root, divisor_of}
use Rattle.correlations.proofs.correlation.divisor_of.Goals as goal

pub returns : goal.returns
unfolding divisor_of held_up of_bits
returns c =
    let root = c.square_root-root in
    let held : c.larger.result ≡ maximum_number root.result epsilon = c.larger.ensures in
    ap (λ (value : Float). record { value = value; held_up = not (le epsilon root.result) }) held ∙ ap held_root root.ensures
