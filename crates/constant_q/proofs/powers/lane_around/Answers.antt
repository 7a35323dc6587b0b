-- The callee's span.
use Rattle.std.proofs.Common.{refl}
use Rattle.constant_q.proofs.powers.lane_around.Goals as goal

pub returns : goal.returns
returns c = rw c.span_around-span.ensures refl
