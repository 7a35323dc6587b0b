-- A byte a turn, joined to those before.
use Rattle.std.proofs.Common.{◌≡◌, ℕ, Bool, List, nat_eq, get_or}
use Rattle.laws.specs.Every.{every}
use Rattle.set_places.proofs.bytes.all_zero.Given as goal

-- byte k is 0
abbrev pub zero_at : List ℕ → ℕ → Bool
zero_at bytes k = nat_eq (get_or bytes k 0) 0

abbrev pub invariant-loop-byte : goal.invariant-loop-byte
invariant-loop-byte l = l.zero ≡ every (zero_at l.bytes) l.byte-index
