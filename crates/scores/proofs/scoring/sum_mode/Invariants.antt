-- A profile a turn.
use mathlib.Core.Path.{◌≡◌}
use Prim.Native.Nat.{◌-◌}
use Rattle.laws.specs.Turns.{turns}
use Rattle.scores.specs.inside.Modes.{mode_turn, mode_sums}
use Rattle.scores.proofs.scoring.sum_mode.Given as goal

abbrev pub invariant-loop-p : goal.invariant-loop-p
invariant-loop-p l = turns (mode_turn l.away l.divisors l.mode) (4 - l.p) l.p l.sums ≡ mode_sums l.away l.divisors l.mode
