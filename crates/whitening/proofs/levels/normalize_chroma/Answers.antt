-- Each return is a branch of the definition.
use mathlib.Core.Path.{ap, ◌∙◌}
use lib.Ieee.{lt}
use Rattle.laws.specs.Values.{epsilon}
use Rattle.laws.proofs.Table.{told}
use Rattle.whitening.specs.Levels.{divided_by, normalized_of}
use Rattle.whitening.proofs.levels.normalize_chroma.Goals as goal

pub returns-then-total : goal.returns-then-total
unfolding normalized_of
returns-then-total c = rw (told (ap (lt epsilon) c.sum_of_twelve-total.ensures) c.if-total.true) (c.divide_by.ensures ∙ ap (divided_by _) c.sum_of_twelve-total.ensures)

pub returns-else-total : goal.returns-else-total
unfolding normalized_of
returns-else-total c = rw (told (ap (lt epsilon) c.sum_of_twelve-total.ensures) c.if-total.false)
