-- All frames where the centres do not rise; else the loop's invariant: the search goes on from i.
use mathlib.Core.Path.{◌≡◌}
use Prim.Native.Nat.{◌-◌}
use Rattle.laws.specs.First.{first}
use Rattle.gathering.specs.inside.Ahead.{is_past}
use Rattle.gathering.proofs.ahead.find_stop.Given as goal

abbrev pub invariant-loop-i : goal.invariant-loop-i
invariant-loop-i l =
    let test = is_past l.centres l.end in
    first test (l.ahead.frames - l.i) l.i ≡ first test (l.ahead.frames - l.ahead.from) l.ahead.from
