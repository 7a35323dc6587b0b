-- The answer is written out.
use mathlib.Core.Path.{refl}
use lib.Ieee.{of_bits}
use Rattle.answers.specs.Answer.{keyless}
use Rattle.answers.proofs.answer.keyless.Goals as goal

pub returns : goal.returns
unfolding of_bits keyless
returns c = refl
