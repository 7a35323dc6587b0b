-- The counted loop that the definition is.
use mathlib.Core.Path.{refl, sym, ap, ◌∙◌, ◌≡◌}
use mathlib.Core.Bool.{Bool, true, false, cond}
use mathlib.Core.List.{[]}
use Prim.Native.Nat.{◌+◌, ℕ, ◌≤◌}
use native.Mathlib.Omega.{arith}
use lib.ListN.{get_or}
use lib.Ieee.{Float, nan, of_bits}
use Rattle.laws.proofs.Turns.{turns-again, turns-end}
use Rattle.gathering.specs.Gather.{Heard, with_frame, heard, gather_turn, gathered_after, in_window}
use Rattle.gathering.specs.declared.gather.Gathered.{Gathered}
use Rattle.gathering.proofs.gather.gather_frames.Goals as goal
use Rattle.gathering.proofs.gather.gather_frames.Goals.{then-is_within, else-is_within}

-- what a turn makes of a frame within, and of any other
module _ (h : Heard) (start end : Float) (i : ℕ) (g : Gathered) {flag : Bool} (told : flag ≡ in_window start end (get_or h.centres i nan)) where
  abbrev either : Bool → Gathered
  either inside = cond inside (with_frame (get_or h.values i []) g) g

  counted : {more : Gathered} → flag ≡ true → more ≡ with_frame (get_or h.values i []) g → more ≡ gather_turn h start end i g
  unfolding gather_turn
  counted t m = m ∙ ap either (sym t ∙ told)

  passed-by : flag ≡ false → g ≡ gather_turn h start end i g
  unfolding gather_turn
  passed-by t = ap either (sym t ∙ told)

pub loop-i-init : goal.loop-i-init
unfolding gathered_after of_bits
loop-i-init c = (omega arith, refl)

pub loop-i-preserved : goal.loop-i-preserved
loop-i-preserved c =
    let asked = c.args in
    let i = c.loop-i.i in
    let g = c.loop-i.gathered in
    let h = heard asked.stop asked.frames.centres.now asked.frames.values.now in
    let turn : c.if-is_within.gathered ≡ gather_turn h asked.start asked.end i g =
    elim c.if-is_within.branch [
      | then-is_within w ↦ w.gathered-is ∙ counted h asked.start asked.end i g c.is_within.ensures w.if-is_within.true w.with_frame-gathered.ensures
      | else-is_within w ↦ w.gathered-is ∙ passed-by h asked.start asked.end i g c.is_within.ensures w.if-is_within.false
    ] in
    let few : c.if-is_within.gathered.frames ≤ i + 1 =
    elim c.if-is_within.branch [ then-is_within w ↦ rw (w.gathered-is, w.with_frame-gathered.ensures) (omega arith) | else-is_within w ↦ rw w.gathered-is (omega arith) ] in
    (few, turns-again _ _ i c.loop-i.invariant.1 c.loop-i-test.true turn)

pub returns : goal.returns
returns c = turns-end _ _ c.loop-i.i c.loop-i.invariant.1 c.loop-i-test.false
