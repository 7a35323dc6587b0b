-- The first frame has no frame before it.
use borrow.Author.Tests.{eq-eqb, ne_eqb}
use lib.Ieee.{of_bits}
use Rattle.onsets.proofs.weights.weight_by_roots.Goals as goal

pub returns-then-j-eq0 : goal.returns-then-j-eq0
unfolding of_bits
returns-then-j-eq0 c = rw (eq-eqb _ 0 c.if-j-eq0.true)

pub returns : goal.returns
returns c = rw (ne_eqb _ 0 c.if-j-eq0.false, c.rise_weight.ensures)
