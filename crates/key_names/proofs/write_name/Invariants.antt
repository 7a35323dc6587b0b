-- `bytes` is written from the front, a byte of the name a turn.
use Prim.Native.Nat.{ℕ}
use lib.ListN.{get_or}
use Rattle.laws.proofs.Front.{Filled}
use Rattle.key_names.specs.Names.{name_of}
use Rattle.key_names.proofs.write_name.Given as goal

abbrev pub invariant-loop-i : goal.invariant-loop-i
invariant-loop-i l = Filled (λ (k : ℕ). get_or (name_of l.key) k 0) l.initial.bytes l.bytes l.i
