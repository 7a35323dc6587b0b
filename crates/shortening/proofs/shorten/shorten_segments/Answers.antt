-- Each way out of a turn is a law of `Shortens`.
use mathlib.Core.Path.{◌≡◌, refl, ◌∙◌}
use Prim.Native.Nat.{ℕ}
use native.Mathlib.Omega.{arith}
use borrow.Author.Rules.{rules}
use lib.Ieee.{Float}
use Rattle.timeline.specs.Segments.{SegmentRows, segments_in}
use Rattle.timeline.specs.inside.Lent.{segments_lent}
use Rattle.shortening.specs.Shorten.{first_short}
use Rattle.shortening.specs.inside.Lengths.{first_short_in}
use Rattle.shortening.proofs.Searches.{first-there}
use Rattle.shortening.proofs.Shortens.{settled-none, taken-few, found-there, gap-start, now-room, back-two, back-room, back-few, more_room, more-few, gap_back, gap_more, gap-end}
use Rattle.shortening.proofs.shorten.shorten_segments.Goals as goal

-- what the search finds is the first short segment
first-is : (least : Float) (rows : SegmentRows) (count : ℕ) {first : ℕ} → first ≡ first_short_in least rows.starts rows.ends count → first ≡ first_short least (segments_in rows count)
first-is least rows count e = e ∙ first-there least rows count

pub first_short-first-requires : goal.first_short-first-requires
first_short-first-requires c = let room = c.requires.0 in (room.starts, room.ends)

pub returns-then-first-count-clause-filled : goal.returns-then-first-count-clause-filled
returns-then-first-count-clause-filled c =
    settled-none c.requires.0 c.requires.1 _ (first-is c.args.least (segments_lent c.args.rows.now) c.args.count c.first_short-first.ensures) c.if-first-count.true

pub overflow_add-done : goal.overflow_add-done
overflow_add-done c =
    let there = found-there _ _ (first-is c.args.least (segments_lent c.args.rows.now) c.args.count c.first_short-first.ensures) c.if-first-count.false in
    omega (arith, c.ranges.count, there)

pub overflow_add-next : goal.overflow_add-next
overflow_add-next c =
    let there = found-there _ _ (first-is c.args.least (segments_lent c.args.rows.now) c.args.count c.first_short-first.ensures) c.if-first-count.false in
    omega (arith, c.ranges.count, there)

pub loop-done-init : goal.loop-done-init
loop-done-init c =
    (search rules, gap-start c.requires.0 c.requires.1 c.requires.2 (first-is c.args.least (segments_lent c.args.rows.now) c.args.count c.first_short-first.ensures) c.if-first-count.false)

pub joins_back-requires : goal.joins_back-requires
joins_back-requires c =
    let gap = c.loop-done.invariant.1 in
    let room = now-room gap in
    (gap.some, gap.apart, gap.upto, room.starts, room.ends)

pub overflow_sub-done : goal.overflow_sub-done
overflow_sub-done c = c.loop-done.invariant.1.some

pub overflow_sub-done-then-joins_back : goal.overflow_sub-done-then-joins_back
overflow_sub-done-then-joins_back c = let two = back-two c.loop-done.invariant.1 c.joins_back.ensures c.if-joins_back.true in omega arith

pub join_rows-requires : goal.join_rows-requires
join_rows-requires c =
    let gap = c.loop-done.invariant.1 in
    (back-room gap c.joins_back.ensures c.if-joins_back.true, back-few gap c.joins_back.ensures c.if-joins_back.true)

pub loop-done-smaller-then-joins_back : goal.loop-done-smaller-then-joins_back
loop-done-smaller-then-joins_back c =
    let two = back-two c.loop-done.invariant.1 c.joins_back.ensures c.if-joins_back.true in
    omega arith

pub loop-done-preserved-then-joins_back : goal.loop-done-preserved-then-joins_back
loop-done-preserved-then-joins_back c = (search rules, gap_back c.loop-done.invariant.1 c.joins_back.ensures c.if-joins_back.true refl c.join_rows.ensures.joined)

pub take_in-done-requires : goal.take_in-done-requires
take_in-done-requires c =
    let gap = c.loop-done.invariant.1 in
    (gap.some, gap.apart, more_room gap c.if-next-count.false, more-few gap c.if-next-count.false)

pub overflow_add-next-else-joins_back : goal.overflow_add-next-else-joins_back
overflow_add-next-else-joins_back c = omega (arith, c.ranges.count, c.loop-done.invariant.1.upto, c.if-next-count.false)

pub loop-done-smaller : goal.loop-done-smaller
loop-done-smaller c =
    let upto = c.loop-done.invariant.1.upto in
    let few = taken-few _ _ _ _ c.take_in-done.ensures.taken in
    omega (arith, c.if-next-count.false)

pub loop-done-preserved : goal.loop-done-preserved
loop-done-preserved c = (search rules, gap_more c.loop-done.invariant.1 c.joins_back.ensures c.if-joins_back.false c.if-next-count.false c.take_in-done.ensures.taken)

pub empty_rows-requires : goal.empty_rows-requires
empty_rows-requires c = let gap = c.loop-done.invariant.1 in (omega (arith, gap.apart, gap.upto), now-room gap)

pub returns-clause-filled : goal.returns-clause-filled
returns-clause-filled c = gap-end c.loop-done.invariant.1 c.joins_back.ensures c.if-joins_back.false c.if-next-count.true c.empty_rows.ensures.emptied
