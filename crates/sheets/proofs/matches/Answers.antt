-- The tests joined are those of the definition.
use mathlib.Core.Path.{refl}
use Rattle.sheets.specs.Sheet.{matches_call}
use Rattle.sheets.proofs.matches.Goals as goal

pub returns : goal.returns
unfolding matches_call
returns c = refl
