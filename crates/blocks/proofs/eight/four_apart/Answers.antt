-- The callees, put together.
use mathlib.Core.Path.{refl}
use Rattle.blocks.proofs.eight.four_apart.Goals as goal

pub returns : goal.returns
returns c = rw (c.later-3.ensures, c.later-2.ensures, c.later.ensures) refl
