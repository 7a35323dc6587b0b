-- The value of the key's pattern.
use mathlib.Core.Path.{ap, ◌∙◌}
use lib.Ieee.{binary32, of_bits}
use Rattle.ranks.specs.inside.Search.{value_of_key}
use Rattle.ranks.proofs.values.value_of_key.Goals as goal

pub returns : goal.returns
unfolding value_of_key
returns c = c.from_pattern.ensures ∙ ap (of_bits binary32) c.pattern_of_key.ensures
