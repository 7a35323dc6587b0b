-- The callees' definitions, put together: the resonators start at rest.
use mathlib.Core.Path.{◌∙◌}
use lib.Ieee.{of_bits}
use Rattle.magnitudes.specs.SideBySide.{side_by_side}
use Rattle.magnitudes.proofs.side_by_side.write_side_by_side.Goals as goal

pub returns : goal.returns
unfolding side_by_side of_bits
returns c = c.last_magnitudes.ensures ∙ rw c.run_rows.ensures
