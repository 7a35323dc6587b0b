-- The tests stand in the definition's order.
use mathlib.Core.Path.{refl}
use Rattle.card_form.specs.Rows.{unequal}
use Rattle.card_form.proofs.unequal_lengths.Goals as goal

pub returns : goal.returns
unfolding unequal
returns c = refl
