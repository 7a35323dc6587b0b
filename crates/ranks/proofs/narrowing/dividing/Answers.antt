-- The test that x passed is the one that is asked.
use mathlib.Core.Path.{subst, sym}
use lib.Dec.{T}
use lib.Ieee.{of_bits}
use Rattle.ranks.proofs.narrowing.dividing.Goals as goal

pub returns-then-x : goal.returns-then-x
unfolding of_bits
returns-then-x c = subst T (sym c.if-x.true) tt

pub returns : goal.returns
returns c = c.requires
