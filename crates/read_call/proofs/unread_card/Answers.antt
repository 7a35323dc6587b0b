-- The definition, field by field.
use mathlib.Core.Path.{refl}
use Rattle.read_call.specs.Reads.{unread}
use Rattle.read_call.proofs.unread_card.Goals as goal

pub returns : goal.returns
unfolding unread
returns c = refl
