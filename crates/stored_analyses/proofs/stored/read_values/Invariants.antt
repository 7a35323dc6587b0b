-- The slice is written from the front, a value a turn.
use Prim.Native.Nat.{ℕ, ◌+◌, ◌*◌}
use Rattle.laws.proofs.Front.{Filled}
use Rattle.replayed.specs.Records.{value_at}
use Rattle.stored_analyses.proofs.stored.read_values.Given as goal

abbrev pub invariant-loop-i : goal.invariant-loop-i
invariant-loop-i l = Filled (λ (k : ℕ). value_at l.bytes (l.at + 4 * k)) l.initial.values l.values l.i
