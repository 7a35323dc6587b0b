-- A byte a turn, joined to those before.
use Rattle.std.proofs.Common.{◌≡◌}
use Rattle.laws.specs.Every.{every}
use Rattle.laws.proofs.Same.{same_at}
use Rattle.set_places.proofs.bytes.same_bytes.Given as goal

abbrev pub invariant-loop-i : goal.invariant-loop-i
invariant-loop-i l = l.same ≡ every (same_at l.a l.b) l.i
