-- The closure gives the deviations backward, and stays as it is.
use mathlib.Core.Path.{ap, ◌∙◌}
use Prim.Native.Nat.{ℕ}
use mathlib.Core.List.{List}
use lib.ListN.{get_or}
use lib.Ieee.{Float, nan}
use Rattle.std.proofs.Common.{rules}
use Rattle.laws.specs.Front.{list}
use Rattle.laws.proofs.FromFn.{list-from_fn}
use Rattle.correlations.specs.inside.Deviations.{backward, wheel_of}
use Rattle.correlations.proofs.deviations.wheel.Goals as goal

pub returns : goal.returns
unfolding wheel_of
returns c =
    list-from_fn _ _ _ _ 23 (λ j y q l k. search rules) c.from_fn.ensures.items
    ∙ ap (λ (away : List Float). list (λ (k : ℕ). get_or away (backward k) nan) 23) c.deviations-away.ensures
