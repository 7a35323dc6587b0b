-- The definition, with the callee's count.
use Rattle.std.proofs.Common.{arith}
use Rattle.std.proofs.lemmas.Bool.Decides.{nat_tests}
use Rattle.constant_q.specs.ConstantQ.{half_left}
use Rattle.constant_q.proofs.span.half_is_left.Goals as goal

pub returns : goal.returns
unfolding half_left
returns c = rw c.span_around-span.ensures (grind (arith, nat_tests))
