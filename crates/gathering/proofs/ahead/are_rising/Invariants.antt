-- A pair a turn, joined to those before.
use mathlib.Core.Path.{◌≡◌}
use mathlib.Core.Bool.{Bool}
use mathlib.Core.List.{List}
use Prim.Native.Nat.{ℕ, ◌+◌, ◌-◌, ◌≤◌, max}
use lib.ListN.{get_or}
use lib.Ieee.{Float, nan, le}
use Rattle.laws.specs.Every.{every}
use Rattle.gathering.proofs.ahead.are_rising.Given as goal

-- centre k is not above the next
abbrev pub upward : List Float → ℕ → Bool
upward centres k = le (get_or centres k nan) (get_or centres (k + 1) nan)

abbrev pub invariant-loop-i : goal.invariant-loop-i
invariant-loop-i l = (l.i ≤ max 1 l.frames) × (l.rising ≡ every (upward l.centres) (l.i - 1))
