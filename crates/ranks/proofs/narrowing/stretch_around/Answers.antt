-- An infinity divides.
use mathlib.Core.Path.{sym, subst}
use lib.Dec.{T}
use lib.Ieee.{Float, lt, of_bits}
use Rattle.ranks.specs.inside.Narrow.{divides}
use Rattle.ranks.proofs.narrowing.stretch_around.Goals as goal

pub invariant_of-counted : goal.invariant_of-counted
unfolding of_bits lt
invariant_of-counted c = record { low_divides = subst (λ (x : Float). T (divides x)) (sym c.from_pattern-low.ensures) tt; high_divides = c.args.pivots.low_divides }

pub invariant_of-counted-then-between-rank : goal.invariant_of-counted-then-between-rank
unfolding of_bits lt
invariant_of-counted-then-between-rank c = record { low_divides = c.args.pivots.high_divides; high_divides = subst (λ (x : Float). T (divides x)) (sym c.from_pattern-high.ensures) tt }
