-- Both lists are written from the front, a row a turn.
use Rattle.magnitudes.proofs.Resonators.{Stepped}
use Rattle.magnitudes.proofs.side_by_side.step_rows.Given as goal

abbrev pub invariant-loop-k : goal.invariant-loop-k
invariant-loop-k l = Stepped l.coefficients l.x l.initial.last l.initial.before l.last l.before l.k
