-- A confidence a turn, from -0.
use Rattle.std.proofs.Common.{◌≡◌, ℕ, ◌-◌, length, get_or}
use Rattle.laws.specs.Turns.{turns}
use lib.Ieee.{Float, nan, binary32, add}
use Rattle.numbers.specs.Sum.{sum_of}
use Rattle.groups.proofs.cut.sum_confidences.Given as goal

abbrev pub invariant-loop-confidence : goal.invariant-loop-confidence
invariant-loop-confidence l =
    let xs = l.confidences in
    turns (λ (j : ℕ) (s : Float). add binary32 s (get_or xs j nan)) (length xs - l.confidence-index) l.confidence-index l.sum ≡ sum_of (length xs) xs
