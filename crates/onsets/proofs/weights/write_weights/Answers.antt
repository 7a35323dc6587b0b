-- A frame a turn, with the root of the energy before it at hand.
use mathlib.Core.Path.{◌≡◌, ap, ◌∙◌}
use Prim.Native.Nat.{ℕ, ◌+◌, ◌-◌}
use native.Mathlib.Nat.{not-suc-le-zero}
use native.Mathlib.Omega.{arith}
use lib.ListN.{get_or}
use lib.Ieee.{nan}
use Rattle.laws.proofs.Front.{filled-start, filled_more, filled-to}
use Rattle.roots.specs.Root.{root_of}
use Rattle.onsets.proofs.Weighing.{carried}
use Rattle.onsets.proofs.weights.write_weights.Goals as goal

pub loop-j-init : goal.loop-j-init
loop-j-init c = (filled-start _ _, λ h. absurd (not-suc-le-zero h))

pub bounds-weights-j : goal.bounds-weights-j
bounds-weights-j c = let l = c.loop-j.invariant.0.long in omega arith

pub loop-j-preserved : goal.loop-j-preserved
loop-j-preserved c =
    let turn = c.loop-j in
    let energies = c.args.energies.now in
    let high = c.square_root-high.ensures in
    let same : turn.j ≡ turn.j + 1 - 1 = omega arith in
    (rw (carried energies turn.j turn.invariant.1 high c.weight_by_roots.ensures) (filled_more _ _ _ turn.j turn.invariant.0 (omega arith)), λ _. high ∙ ap (λ (k : ℕ). root_of (get_or energies k nan)) same)

pub shape_of-weights : goal.shape_of-weights
shape_of-weights c = c.loop-j.invariant.0.long

pub returns : goal.returns
returns c = filled-to _ _ _ c.loop-j.j c.args.count c.loop-j.invariant.0 (omega arith)
