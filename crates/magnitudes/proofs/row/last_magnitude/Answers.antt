-- The callees' definitions, put together.
use mathlib.Core.Path.{refl}
use Rattle.magnitudes.proofs.row.last_magnitude.Goals as goal

pub returns : goal.returns
returns c = rw (c.square_root.ensures, c.last_power.ensures) refl
