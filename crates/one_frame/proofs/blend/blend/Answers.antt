-- The test is the definition's, and each arm its callees' definitions.
use Rattle.std.proofs.Common.{ap, ◌∙◌, ap₂}
use lib.Ieee.{lt}
use Rattle.laws.specs.Values.{epsilon}
use Rattle.laws.proofs.Table.{told}
use Rattle.whitening.specs.Levels.{normalized_of}
use Rattle.one_frame.specs.Blend.{halves_of, blend_of}
use Rattle.one_frame.proofs.blend.blend.Goals as goal

pub returns-then-sum_of_twelve : goal.returns-then-sum_of_twelve
unfolding blend_of
returns-then-sum_of_twelve c =
    rw (told (ap (lt epsilon) c.sum_of_twelve.ensures) c.if-sum_of_twelve.true)
    (c.normalize_chroma.ensures ∙ ap normalized_of (c.add_halves-both.ensures ∙ ap₂ halves_of c.level-first.ensures c.level-second.ensures))

pub returns-else-sum_of_twelve : goal.returns-else-sum_of_twelve
unfolding blend_of
returns-else-sum_of_twelve c = rw (told (ap (lt epsilon) c.sum_of_twelve.ensures) c.if-sum_of_twelve.false) c.level-first.ensures
