-- The next window begins where this one ends, which is no later than all do.
use Rattle.std.proofs.Common.{length, refl, arith}
use Rattle.constant_q.proofs.Spans.{joined-within, joined-next}
use Rattle.constant_q.proofs.powers.place.Goals as goal

pub overflow_add-next : goal.overflow_add-next
overflow_add-next c = let a = c.args in let j = joined-within a.lengths.now (length a.lengths.now) a.k (omega arith) in omega arith

pub returns : goal.returns
returns c = rw (c.lane_around-lane.ensures, c.requires.2, joined-next) refl
