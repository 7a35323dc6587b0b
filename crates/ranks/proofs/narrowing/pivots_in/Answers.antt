-- The least value that is no zero divides.
use mathlib.Core.Path.{sym, subst}
use lib.Dec.{T}
use lib.Ieee.{Float, lt, of_bits}
use Rattle.ranks.specs.inside.Narrow.{divides}
use Rattle.ranks.proofs.narrowing.pivots_in.Goals as goal

pub dividing-requires : goal.dividing-requires
unfolding of_bits lt
dividing-requires c = subst (λ (x : Float). T (divides x)) (sym c.from_pattern.ensures) tt
