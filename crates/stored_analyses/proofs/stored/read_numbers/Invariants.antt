-- The slice is written from the front, a number a turn.
use Prim.Native.Nat.{ℕ, ◌+◌, ◌*◌}
use Rattle.laws.proofs.Front.{Filled}
use Rattle.replayed.specs.Records.{word_at}
use Rattle.stored_analyses.proofs.stored.read_numbers.Given as goal

abbrev pub invariant-loop-i : goal.invariant-loop-i
invariant-loop-i l = Filled (λ (k : ℕ). word_at l.bytes (l.at + 4 * k)) l.initial.numbers l.numbers l.i
