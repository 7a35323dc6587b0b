-- A score a turn.
use mathlib.Core.Path.{◌≡◌}
use Prim.Native.Nat.{◌-◌}
use mathlib.Core.Bool.{true}
use Rattle.laws.specs.Turns.{turns}
use Rattle.replayed.specs.Records.{score_turn}
use Rattle.replayed.proofs.scores_agree.Given as goal

abbrev pub invariant-loop-k : goal.invariant-loop-k
invariant-loop-k l = turns (score_turn l.bytes l.start l.scores) (24 - l.k) l.k l.same ≡ turns (score_turn l.bytes l.start l.scores) 24 0 true
