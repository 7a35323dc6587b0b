-- What the call ensures, or 1001.
use mathlib.Core.Path.{ap, ◌∙◌}
use Rattle.std.specs.Option.{unwrap_or}
use Rattle.card_judge.proofs.analysed.packed_part.Goals as goal

pub returns : goal.returns
returns c = c.unwrap_or.ensures ∙ ap (λ held. unwrap_or held 1001) c.thousandths.ensures
