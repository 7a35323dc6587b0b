-- The first frame has no frame before it.
use lib.Ieee.{of_bits}
use borrow.Author.Tests.{eq-eqb, ne_eqb}
use Rattle.onsets.specs.Onsets.{weight_at}
use Rattle.onsets.proofs.weights.weight_at.Goals as goal

pub returns-then-j-eq0 : goal.returns-then-j-eq0
unfolding weight_at of_bits
returns-then-j-eq0 c = rw (eq-eqb _ 0 c.if-j-eq0.true)

pub returns : goal.returns
unfolding weight_at of_bits
returns c = rw (ne_eqb _ 0 c.if-j-eq0.false, c.onset_weight.ensures)
