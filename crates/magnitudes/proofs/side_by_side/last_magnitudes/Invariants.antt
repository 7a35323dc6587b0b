-- The room is written from the front, a row a turn.
use Prim.Native.Nat.{ℕ}
use lib.ListN.{get_or}
use lib.Ieee.{nan}
use Rattle.laws.proofs.Front.{Filled}
use Rattle.magnitudes.specs.Magnitudes.{last_magnitude}
use Rattle.magnitudes.specs.SideBySide.{delay_lists, delay_at}
use Rattle.magnitudes.proofs.side_by_side.last_magnitudes.Given as goal

abbrev pub invariant-loop-k : goal.invariant-loop-k
invariant-loop-k l = Filled (λ (j : ℕ). last_magnitude (get_or l.coefficients j nan) (delay_at (delay_lists l.last l.before) j)) l.initial.room l.room l.k
