-- The room is written from the front, four rows or one a turn.
use Rattle.std.proofs.Common.{refl, arith}
use Rattle.sheets.specs.Sheet.{joined_length}
use Rattle.constant_q.specs.inside.Lanes.{four_powers}
use Rattle.constant_q.specs.inside.Powers.{powers_of}
use Rattle.laws.proofs.Front.{filled-start, filled_more, filled-to}
use Rattle.filters.proofs.Rooms.{filled-four}
use Rattle.constant_q.proofs.powers.write_powers.Goals as goal

pub loop-k-init : goal.loop-k-init
unfolding joined_length
loop-k-init c = (omega arith, refl, filled-start _ _)

pub write_one-first-requires : goal.write_one-first-requires
write_one-first-requires c = let long = c.loop-k.invariant.2.long in (c.requires.0, omega arith, omega arith, c.loop-k.invariant.1)

pub loop-k-preserved-then-rows-k-lt4 : goal.loop-k-preserved-then-rows-k-lt4
loop-k-preserved-then-rows-k-lt4 c = let turn = c.loop-k in (omega arith, c.write_one-first.ensures.1, rw c.write_one-first.ensures.0 (filled_more _ _ _ turn.k turn.invariant.2 (omega arith)))

pub write_four-first-requires : goal.write_four-first-requires
write_four-first-requires c = let long = c.loop-k.invariant.2.long in (c.requires.0, omega arith, omega arith, c.loop-k.invariant.1)

pub loop-k-preserved : goal.loop-k-preserved
unfolding four_powers
loop-k-preserved c = let turn = c.loop-k in (omega arith, c.write_four-first.ensures.1, rw c.write_four-first.ensures.0 (filled-four _ _ _ turn.k turn.invariant.2 (omega arith)))

pub returns : goal.returns
unfolding powers_of
returns c = let last = c.loop-k in filled-to _ _ _ last.k _ last.invariant.2 (omega arith)
