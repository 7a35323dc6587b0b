-- A record a turn; no more differ than were read.
use mathlib.Core.Path.{◌≡◌}
use Prim.Native.Nat.{◌≤◌, ◌-◌}
use Rattle.laws.specs.Turns.{turns}
use Rattle.replayed_analyses.specs.Analyses.{record_turn}
use Rattle.replayed_analyses.proofs.analyses.count_differing_analyses.Given as goal

abbrev pub invariant-loop-n : goal.invariant-loop-n
invariant-loop-n l = (l.differ ≤ l.n) × (turns (record_turn l.bytes) (l.count - l.n) l.n l.differ ≡ turns (record_turn l.bytes) l.count 0 0)
