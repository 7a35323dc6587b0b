-- Both engines leave the magnitudes of all rows, so they agree.
use mathlib.Core.Path.{sym, ◌∙◌}
use Rattle.magnitudes.specs.Engines.{EnginesAgree}
use Rattle.magnitudes.proofs.Resonators.{side-by-side-told}
use Rattle.magnitudes.proofs.Batches.{in-fours-told}

pub engines-agree : EnginesAgree
engines-agree window coefficients samples start room few enough = side-by-side-told window coefficients samples start room few ∙ sym (in-fours-told window coefficients samples start room enough)
