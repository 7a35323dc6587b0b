-- The tests joined are those of the definition.
use Rattle.sheets.specs.Sheet.{lists_fit}
use Rattle.sheets.proofs.lists_fit.Goals as goal

pub returns : goal.returns
unfolding lists_fit
returns c = rw c.notes-most.ensures.0
