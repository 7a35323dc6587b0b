-- The loop's invariant: the search goes on from i.
use mathlib.Core.Path.{◌≡◌}
use Prim.Native.Nat.{◌-◌}
use Rattle.laws.specs.First.{first}
use Rattle.gathering.specs.inside.Ahead.{is_from}
use Rattle.gathering.proofs.ahead.first_from.Given as goal

abbrev pub invariant-loop-i : goal.invariant-loop-i
invariant-loop-i l =
    let test = is_from l.centres l.start in
    first test (l.ahead.frames - l.i) l.i ≡ first test (l.ahead.frames - l.ahead.from) l.ahead.from
