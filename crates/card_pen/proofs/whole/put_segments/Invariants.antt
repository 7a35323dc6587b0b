-- The first i segments have been put.
use Rattle.card_pen.proofs.Puts.{Putting}
use Rattle.card_pen.proofs.whole.put_segments.Given as goal

abbrev pub invariant-loop-i : goal.invariant-loop-i
invariant-loop-i g l = let s = g.S.SaysCard in Putting l.l (s.segment_of l.said) (s.count_of l.said) l.initial.bytes l.bytes l.initial.pen l.pen l.i
