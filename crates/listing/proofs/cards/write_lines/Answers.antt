-- A line a turn, each behind those before it.
use mathlib.Core.Path.{◌≡◌, sym, ap, ◌∙◌}
use Prim.Native.Nat.{◌+◌, ◌*◌, ◌≤◌}
use native.Mathlib.Nat.{mul-le-mul_right}
use native.Mathlib.Omega.{arith}
use lib.ListN.{length}
use Rattle.laws.specs.Front.{list}
use Rattle.laws.proofs.Front.{get_or-list, length-list}
use Rattle.bits.specs.Bits.{bits_of_bytes}
use Rattle.card_form.specs.Form.{segment_width, segment_on}
use Rattle.listing.specs.Lines.{lines_of}
use Rattle.listing.specs.Listing.{segment_line}
use Rattle.listing.proofs.Behind.{as-list, within}
use Rattle.listing.proofs.Segments.{reached-start, reached-long, reached-room, reached-more}
use Rattle.listing.proofs.cards.write_lines.Goals as goal

pub loop-i-init : goal.loop-i-init
loop-i-init c = reached-start _ _

pub segment_on-s-requires : goal.segment_on-s-requires
segment_on-s-requires c =
    let i = c.loop-i.i in
    let width = segment_width c.args.l in
    let next : (i + 1) * width ≤ c.args.count * width = mul-le-mul_right width (omega arith) in
    let long = rw (← c.requires.1) at c.requires.0.long in
    let few = rw (← c.requires.1) at c.requires.0.few in
    (c.requires.0.fits, omega arith, omega arith)

pub slice_bounds-write_line-count : goal.slice_bounds-write_line-count
slice_bounds-write_line-count c = within c.loop-i.invariant.put

pub write_line-at-requires : goal.write_line-at-requires
write_line-at-requires c = reached-room c.loop-i.invariant _ c.requires.2 c.loop-i-test.true _ _

-- after a turn
pub loop-i-preserved : goal.loop-i-preserved
loop-i-preserved c =
    let turn = c.loop-i in
    reached-more turn.invariant (get_or-list (segment_on c.args.l (bits_of_bytes c.args.card.now)) c.args.count turn.i _ c.loop-i-test.true ∙ sym c.segment_on-s.ensures) c.write_line-at.ensures

pub overflow_add-at : goal.overflow_add-at
overflow_add-at c =
    let more = reached-more c.loop-i.invariant (get_or-list (segment_on c.args.l (bits_of_bytes c.args.card.now)) c.args.count c.loop-i.i _ c.loop-i-test.true ∙ sym c.segment_on-s.ensures) c.write_line-at.ensures in
    omega (arith, within more.put, reached-long more _ c.requires.2 (omega arith))

pub shape_of-bytes : goal.shape_of-bytes
shape_of-bytes c = reached-long c.loop-i.invariant _ c.requires.2 (omega arith)

pub returns : goal.returns
returns c =
    let ss = list (segment_on c.args.l (bits_of_bytes c.args.card.now)) c.args.count in
    let all : c.loop-i.i ≡ length ss = omega (arith, length-list (segment_on c.args.l (bits_of_bytes c.args.card.now)) c.args.count) in
    as-list (ap (lines_of (segment_line ss)) all) c.loop-i.invariant.put
