-- `is_whole` meets its contract: a test a turn.
use Rattle.std.proofs.Common.{◌≡◌, ℕ, ◌&&◌, get_or}
use lib.Ieee.{nan}
use lib.Ieee.Scale.{finite}
use Rattle.laws.specs.Every.{every}
use Rattle.one_frame.proofs.frame.is_whole.Given as goal

abbrev pub invariant-loop-i : goal.invariant-loop-i
invariant-loop-i l = l.sofar ≡ (l.initial.sofar && every (λ (k : ℕ). finite (get_or l.values k nan)) l.i)
