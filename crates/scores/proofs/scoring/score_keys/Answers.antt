-- The closure takes a quarter of a sum, and stays as it is.
use mathlib.Core.Path.{ap, ◌∙◌}
use mathlib.Core.List.{[], ◌∷◌}
use Rattle.std.proofs.Common.{rules}
use Rattle.laws.proofs.FromFn.{list-from_fn}
use Rattle.scores.specs.declared.scoring.Divisors.{Divisors}
use Rattle.scores.proofs.Modes.{quarter, scored}
use Rattle.scores.proofs.Shapes.{shaped}
use Rattle.scores.proofs.scoring.score_keys.Goals as goal

pub returns : goal.returns
returns c =
    let chroma = c.args.chroma.now in
    let mean = c.mean.ensures in
    let energy = c.energy.ensures in
    let divisors = c.divisors_for-divisors.ensures in
    let scores =
    list-from_fn _ (quarter (c.sum_mode.result ∷ c.sum_mode-2.result ∷ [])) _ _ 24 (λ j y q l k. search rules) c.from_fn.ensures.items
    ∙ scored chroma mean c.deviations-away.ensures energy (ap (λ (d : Divisors). d.values) divisors) c.sum_mode.ensures c.sum_mode-2.ensures in
    let held = shaped chroma mean c.deviations-away.ensures energy (ap (λ (d : Divisors). d.held_up) divisors) in
    λ i. record { scores = scores i; shapeless = held i }
