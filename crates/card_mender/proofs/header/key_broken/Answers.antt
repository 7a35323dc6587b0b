-- The header without its alternate is judged beside the fewest segments.
use mathlib.Core.Path.{ap₂, ◌∙◌}
use Rattle.card.specs.Rules.{header_broken}
use Rattle.card_mender.specs.Mending.{key_broken}
use Rattle.card_mender.proofs.header.key_broken.Goals as goal

pub returns : goal.returns
unfolding key_broken
returns c = c.header_broken.ensures ∙ ap₂ (header_broken c.args.l) c.without_alternate.ensures c.fewest.ensures
