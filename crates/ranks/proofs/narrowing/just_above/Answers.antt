-- A value that is a bound, or a given one.
use mathlib.Core.Path.{subst, sym}
use lib.Dec.{T}
use lib.Ieee.{Float, lt, of_bits}
use Rattle.ranks.specs.inside.Narrow.{divides}
use Rattle.ranks.proofs.narrowing.just_above.Goals as goal

pub dividing-requires : goal.dividing-requires
unfolding of_bits lt
dividing-requires c = subst (λ (x : Float). T (divides x)) (sym c.from_pattern.ensures) tt

pub returns-then-key-lt4286578688 : goal.returns-then-key-lt4286578688
returns-then-key-lt4286578688 c = c.dividing.ensures

pub returns : goal.returns
unfolding of_bits lt
returns c = subst (λ (x : Float). T (divides x)) (sym c.from_pattern-2.ensures) tt
