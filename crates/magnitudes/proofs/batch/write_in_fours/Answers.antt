-- The batches, then the odd rows.
use mathlib.Core.Path.{refl, ◌∙◌}
use Rattle.magnitudes.specs.InFours.{in_fours}
use Rattle.magnitudes.proofs.batch.write_in_fours.Goals as goal

pub returns : goal.returns
unfolding in_fours
returns c = c.write_singly.ensures ∙ rw c.write_batches.ensures refl
