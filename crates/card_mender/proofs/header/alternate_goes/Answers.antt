-- The header is judged beside the fewest segments.
use mathlib.Core.Path.{ap, ◌∙◌}
use Rattle.card.specs.Rules.{header_broken}
use Rattle.card_mender.specs.Mending.{alternate_goes}
use Rattle.card_mender.proofs.header.alternate_goes.Goals as goal

pub returns : goal.returns
unfolding alternate_goes
returns c = let args = c.args in c.header_broken.ensures ∙ ap (header_broken args.l args.h) c.fewest.ensures
