-- The definition, field by field.
use mathlib.Core.Path.{refl}
use Rattle.read_call.specs.Reads.{read_answer}
use Rattle.read_call.proofs.read_answer.Goals as goal

pub returns : goal.returns
unfolding read_answer
returns c = refl
