-- The tests stand in the definition's order.
use mathlib.Core.Path.{refl}
use Rattle.card.specs.Rules.{segment_broken}
use Rattle.card.proofs.rules.segment_broken.Goals as goal

pub returns : goal.returns
unfolding segment_broken
returns c = refl
