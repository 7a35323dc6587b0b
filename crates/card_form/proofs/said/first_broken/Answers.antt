-- The search goes on from segment i.
use mathlib.Core.Path.{ap, subst, ◌∙◌}
use Prim.Native.Nat.{ℕ, ◌<◌}
use Rattle.laws.specs.Front.{list}
use Rattle.card.specs.Rules.{first_broken}
use Rattle.card.proofs.Judged.{judging-start, judging-more, judging-out, judging-end}
use Rattle.card_form.proofs.said.first_broken.Goals as goal

pub loop-i-init : goal.loop-i-init
loop-i-init g c = judging-start c.args.l (g.S.SaysCard.segment_of c.args.said.now) c.count-count.result

pub segment-s-requires : goal.segment-s-requires
segment-s-requires g c = (c.requires, subst (λ (n : ℕ). c.loop-i.i < n) c.count-count.ensures c.loop-i-test.true)

pub loop-i-preserved : goal.loop-i-preserved
loop-i-preserved g c = judging-more c.args.l (g.S.SaysCard.segment_of c.args.said.now) c.count-count.result c.loop-i.i c.loop-i.invariant c.loop-i-test.true c.segment-s.ensures c.segment_broken.ensures c.if-segment_broken.false

pub returns-then-segment_broken : goal.returns-then-segment_broken
returns-then-segment_broken g c =
    let at = g.S.SaysCard.segment_of c.args.said.now in
    judging-out c.args.l at c.count-count.result c.loop-i.i c.loop-i.invariant c.loop-i-test.true c.segment-s.ensures c.segment_broken.ensures c.if-segment_broken.true
    ∙ ap (λ (n : ℕ). first_broken c.args.l (list at n)) c.count-count.ensures

pub returns : goal.returns
returns g c =
    let at = g.S.SaysCard.segment_of c.args.said.now in
    judging-end c.args.l at c.count-count.result c.loop-i.invariant c.loop-i-test.false ∙ ap (λ (n : ℕ). first_broken c.args.l (list at n)) c.count-count.ensures
