-- Either engine leaves the magnitudes of all rows.
use native.Mathlib.Omega.{arith}
use mathlib.Core.Path.{◌∙◌}
use Rattle.magnitudes.proofs.Resonators.{side-by-side-told}
use Rattle.magnitudes.proofs.Batches.{in-fours-told}
use Rattle.magnitudes.proofs.write_magnitudes.Goals as goal

pub returns-then-engine-eq1 : goal.returns-then-engine-eq1
returns-then-engine-eq1 c =
    let a = c.args in
    c.write_in_fours.ensures ∙ in-fours-told a.window.now a.coefficients.now a.samples.now a.start a.room.now (omega arith)

pub returns-else-engine-eq1 : goal.returns-else-engine-eq1
returns-else-engine-eq1 c =
    let a = c.args in
    c.write_side_by_side.ensures ∙ side-by-side-told a.window.now a.coefficients.now a.samples.now a.start a.room.now (omega arith)
