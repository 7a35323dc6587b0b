-- The callees' definitions, put together.
use mathlib.Core.Path.{ap, ◌∙◌}
use lib.Ieee.{binary32, of_bits}
use Rattle.replayed.specs.Records.{value_at}
use Rattle.replayed.proofs.value_at.Goals as goal

pub returns : goal.returns
unfolding value_at
returns c = c.from_pattern.ensures ∙ ap (of_bits binary32) c.word_at.ensures
