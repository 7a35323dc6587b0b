-- The counted loop that the definition is.
use mathlib.Core.Path.{◌≡◌}
use Prim.Native.Nat.{◌-◌, ◌≤◌}
use Rattle.laws.specs.Turns.{turns}
use Rattle.gathering.specs.Gather.{heard, gather_turn, gathered_after}
use Rattle.gathering.proofs.gather.gather_frames.Given as goal

abbrev pub invariant-loop-i : goal.invariant-loop-i
invariant-loop-i l =
    let h = heard l.stop l.frames.centres.now l.frames.values.now in
    (l.gathered.frames ≤ l.i) × (turns (gather_turn h l.start l.end) (l.stop - l.i) l.i l.gathered ≡ gathered_after h l.from l.start l.end)
