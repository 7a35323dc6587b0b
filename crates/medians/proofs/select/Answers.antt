-- The value with the key at the middle rank is the median.
use Rattle.medians.proofs.select.Goals as goal
use mathlib.Core.Path.{ap, ◌∙◌}
use Prim.Native.Nat.{ℕ}
use lib.Ieee.{of_bits}
use lib.ListN.{replicate}
use Rattle.laws.specs.Values.{plus_zero}
use Rattle.medians.proofs.ByKey.{median-by-key}

pub returns-clause-median : goal.returns-clause-median
returns-clause-median c = c.value_of_key.ensures ∙ median-by-key c.args.values.now _ _ c.requires c.slice_known-1.given c.middle_rank.ensures c.find_key-key.ensures

pub returns-clause-zeroed : goal.returns-clause-zeroed
unfolding of_bits
returns-clause-zeroed c = c.fill.ensures.after (λ y e. e) ∙ ap (λ (n : ℕ). replicate n plus_zero) c.find_key-key.auto.work
