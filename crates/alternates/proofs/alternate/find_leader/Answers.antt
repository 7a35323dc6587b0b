-- The keys that are left lead from who leads so far to the last of the largest.
use mathlib.Core.Path.{refl, ◌∙◌}
use Prim.Native.Nat.{ℕ, ◌<◌}
use native.Mathlib.Omega.{arith}
use lib.ListN.{get_or}
use lib.Ieee.{nan}
use Rattle.laws.specs.Order.{total_order}
use Rattle.laws.specs.Leader.{last_largest}
use Rattle.laws.proofs.Lists.{fold-again, fold_end}
use Rattle.laws.proofs.Leader.{outdone-same}
use Rattle.alternates.specs.inside.Noted.{standing_of, leader_in}
use Rattle.alternates.proofs.alternate.find_leader.Invariants.{step}
use Rattle.alternates.proofs.alternate.find_leader.Goals as goal

pub loop-j-init : goal.loop-j-init
unfolding leader_in last_largest
loop-j-init c = refl

pub offset_bounds-noted-key : goal.offset_bounds-noted-key
offset_bounds-noted-key c =
    let below : get_or (c.args.noted).order c.loop-j.j 0 < 24 = c.requires.3 c.loop-j.j (c.loop-j-test.true) in
    omega (arith, below)

pub bounds-noted-key : goal.bounds-noted-key
bounds-noted-key c =
    let below : get_or (c.args.noted).order c.loop-j.j 0 < 24 = c.requires.3 c.loop-j.j (c.loop-j-test.true) in
    below

pub loop-j-preserved : goal.loop-j-preserved
loop-j-preserved c =
    let n = c.args.noted in
    let led = c.take_lead.ensures ∙ outdone-same total_order _ (λ (key : ℕ). get_or n.sums key nan) (standing_of c.loop-j.leader) _ refl in
    fold-again (step n) n.order n.met c.loop-j.j 0 c.loop-j.invariant c.loop-j-test.true c.requires.2 led

pub returns : goal.returns
returns c =
    let n = c.args.noted in
    fold_end (step n) n.order n.met c.loop-j.j c.loop-j.invariant (omega (arith, c.loop-j.auto.j-end c.requires.0, c.loop-j-test.false))
