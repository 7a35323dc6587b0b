-- Each way through a turn is a law of `Cuts`; the rows keep their slices.
use Rattle.std.proofs.Common.{sym, ◌∙◌, arith, rules}
use lib.Ieee.{of_bits}
use Rattle.groups.proofs.Cuts.{room-now, cut-start, cut_on, cut_off, cut-end}
use Rattle.groups.proofs.cut.cut_groups.Goals as goal
use Rattle.groups.proofs.cut.cut_groups.Goals.{then-is_split, else-is_split}

pub loop-j-init : goal.loop-j-init
unfolding of_bits
loop-j-init c = let pre = c.requires in (search rules, cut-start pre.0 pre.1 pre.2)

pub write_group-requires : goal.write_group-requires
write_group-requires c =
    let cut = c.loop-j.invariant.1 in
    let inside = c.loop-j-test.true in (
      omega (arith, cut.behind),
      omega (arith, inside, cut.there.keys),
      omega (arith, inside, cut.there.confidences),
      omega (arith, inside, cut.there.few),
      λ i h. cut.there.numbered i (omega (arith, h, inside)),
      room-now cut,
    )

pub loop-j-preserved : goal.loop-j-preserved
loop-j-preserved c =
    let turn = c.loop-j in
    let inside = c.loop-j-test.true in
    elim c.if-is_split.branch [
      | then-is_split w ↦ rw (w.rows-is, w.from-is, w.start-is, w.n-is) (search rules, cut_off turn.invariant.1 inside (sym c.is_split.ensures ∙ w.if-is_split.true) w.border_in_rows-end.ensures w.write_group.ensures.written)
      | else-is_split w ↦ rw (w.rows-is, w.from-is, w.start-is, w.n-is) (search rules, cut_on turn.invariant.1 inside (sym c.is_split.ensures ∙ w.if-is_split.false))
    ]

pub write_group-requires-2 : goal.write_group-requires-2
write_group-requires-2 c =
    let cut = c.loop-j.invariant.1 in
    let there = cut.there in
    (omega (arith, cut.some, cut.behind, cut.upto), there.keys, there.confidences, there.few, there.numbered, room-now cut)

pub returns-clause-filled : goal.returns-clause-filled
returns-clause-filled c = cut-end c.loop-j.invariant.1 c.args.duration c.loop-j-test.false c.write_group-2.ensures.written
