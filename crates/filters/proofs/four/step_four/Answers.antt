-- The callee's definition four times.
use mathlib.Core.Path.{refl}
use Rattle.filters.specs.Four.{stepped_four}
use Rattle.filters.proofs.four.step_four.Goals as goal

pub returns : goal.returns
unfolding stepped_four
returns c = rw (c.step-4.ensures, c.step-3.ensures, c.step-2.ensures, c.step.ensures) refl
