-- The room is written from the front, four rows or one a turn.
use Rattle.std.proofs.Common.{◌≡◌, ◌-◌, ◌≤◌, length}
use Rattle.sheets.specs.Sheet.{joined_length}
use Rattle.constant_q.specs.inside.Powers.{power_at}
use Rattle.laws.proofs.Front.{Filled}
use Rattle.constant_q.proofs.powers.write_powers.Given as goal

abbrev pub invariant-loop-k : goal.invariant-loop-k
invariant-loop-k l = (l.k ≤ length l.lengths) × (l.first ≡ joined_length l.lengths l.k) × Filled (power_at l.samples l.centre l.lengths l.coefficients l.windows) l.initial.room l.room l.k

abbrev pub decreases-loop-k : goal.decreases-loop-k
decreases-loop-k l = length l.lengths - l.k
