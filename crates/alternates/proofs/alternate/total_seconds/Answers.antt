-- The sum so far is that of the first i segments.
use mathlib.Core.Path.{◌≡◌, refl, sym, ap, ◌∙◌}
use Prim.Native.Nat.{ℕ}
use native.Mathlib.Omega.{arith}
use lib.Ieee.{Float, binary64, of_bits, neg, add}
use Rattle.laws.specs.Front.{list}
use Rattle.laws.specs.Lists.{fold}
use Rattle.laws.proofs.Front.{list-more}
use Rattle.timeline.specs.inside.Segments.{lent_stretches, stretch_in, stretches_in}
use Rattle.timeline.specs.declared.segment.Segment.{Segment}
use Rattle.alternates.specs.Alternate.{held_seconds, total_of}
use Rattle.alternates.proofs.Sums.{total-more}
use Rattle.alternates.proofs.alternate.total_seconds.Goals as goal

pub loop-i-init : goal.loop-i-init
unfolding total_of list fold of_bits neg
loop-i-init c = refl

pub loop-i-preserved : goal.loop-i-preserved
loop-i-preserved c =
    let i = c.loop-i.i in
    let told = c.with_length-sum.ensures ∙ ap (λ (x : Segment). add binary64 c.loop-i.sum (held_seconds x)) c.stretch_at.ensures ∙ ap (λ (x : Float). add binary64 x (held_seconds (stretch_in ((lent_stretches c.args.starts.now c.args.ends.now c.args.keys.now)) i))) c.loop-i.invariant in
    told ∙ sym (total-more (stretches_in ((lent_stretches c.args.starts.now c.args.ends.now c.args.keys.now)) i) (stretch_in ((lent_stretches c.args.starts.now c.args.ends.now c.args.keys.now)) i)) ∙ ap total_of (sym (list-more (stretch_in ((lent_stretches c.args.starts.now c.args.ends.now c.args.keys.now))) i))

pub returns : goal.returns
returns c =
    let all : c.loop-i.i ≡ c.args.count = omega (arith, c.loop-i.auto.i-end, c.loop-i-test.false) in
    c.loop-i.invariant ∙ ap (λ (n : ℕ). total_of (stretches_in ((lent_stretches c.args.starts.now c.args.ends.now c.args.keys.now)) n)) all
