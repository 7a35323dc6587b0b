-- A place a turn, its numbers added to those of the places before.
use mathlib.Core.Path.{◌≡◌}
use mathlib.Core.Bool.{Bool}
use mathlib.Core.List.{List}
use Prim.Native.Nat.{ℕ}
use Rattle.laws.specs.Every.{any_below}
use Rattle.laws.specs.Front.{list}
use Rattle.set_places.specs.Places.{place_at, spoilt}
use Rattle.set_totals.specs.inside.Numbers.{summary_numbers}
use Rattle.set_totals.proofs.Tallied.{sum_over}
use Rattle.set_totals.proofs.whole_set.tally.Given as goal

-- place i is spoilt
abbrev pub spoilt_at : List ℕ → ℕ → Bool
spoilt_at set i = spoilt (place_at set i)

abbrev pub invariant-loop-i : goal.invariant-loop-i
invariant-loop-i l = (l.spoilt ≡ any_below (spoilt_at l.set) l.i) × (l.numbers ≡ list (sum_over l.set l.i) summary_numbers)
