-- The first i segments have been put.
use mathlib.Core.Path.{subst}
use Prim.Native.Nat.{ℕ, ◌≤◌, ◌<◌}
use Rattle.card_pen.proofs.Puts.{putting-start, putting-room, putting-more, putting-end}
use Rattle.card_pen.proofs.whole.put_segments.Goals as goal

pub loop-i-init : goal.loop-i-init
loop-i-init g c = let s = g.S.SaysCard in putting-start c.args.l (s.segment_of c.args.said.now) (s.count_of c.args.said.now) c.args.bytes.now c.args.first c.requires.0.ready

pub segment-s-requires : goal.segment-s-requires
segment-s-requires g c = (c.requires.1, subst (λ (n : ℕ). c.loop-i.i < n) c.count-count.ensures c.loop-i-test.true)

pub put_segment-pen-requires : goal.put_segment-pen-requires
put_segment-pen-requires g c =
    let s = g.S.SaysCard in
    putting-room c.args.l (s.segment_of c.args.said.now) (s.count_of c.args.said.now) c.loop-i.i c.loop-i.invariant (subst (λ (n : ℕ). c.loop-i.i < n) c.count-count.ensures c.loop-i-test.true) c.segment-s.ensures c.requires.0

pub loop-i-preserved : goal.loop-i-preserved
loop-i-preserved g c =
    let s = g.S.SaysCard in
    putting-more c.args.l (s.segment_of c.args.said.now) (s.count_of c.args.said.now) c.loop-i.i c.loop-i.invariant (subst (λ (n : ℕ). c.loop-i.i < n) c.count-count.ensures c.loop-i-test.true) c.segment-s.ensures c.put_segment-pen.ensures

pub shape_of-bytes : goal.shape_of-bytes
shape_of-bytes g c = c.loop-i.invariant.put.size

pub returns : goal.returns
returns g c =
    let s = g.S.SaysCard in
    putting-end c.args.l (s.segment_of c.args.said.now) (s.count_of c.args.said.now) c.loop-i.invariant (subst (λ (n : ℕ). n ≤ c.loop-i.i) c.count-count.ensures c.loop-i-test.false)
