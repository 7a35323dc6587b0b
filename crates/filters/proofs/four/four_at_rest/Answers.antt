-- The callees, put together.
use mathlib.Core.Path.{refl}
use Rattle.filters.proofs.four.four_at_rest.Goals as goal

pub returns : goal.returns
returns c = rw (c.same_for_four.ensures, c.at_rest.ensures) refl
