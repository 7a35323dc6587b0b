-- The word, and the number behind it.
use mathlib.Core.List.{◌++◌}
use Prim.Native.Nat.{◌≤◌}
use native.Mathlib.Omega.{arith}
use lib.ListN.{length, length-append}
use Rattle.listing.specs.Lines.{newline, number_then}
use Rattle.listing.specs.Listing.{refused_word, refusal_line}
use Rattle.listing.proofs.Behind.{same_size, within, room-behind, part-behind}
use Rattle.listing.proofs.Sizes.{number_short}
use Rattle.listing.proofs.cards.write_refusal.Goals as goal

pub write_bytes-at-requires : goal.write_bytes-at-requires
write_bytes-at-requires c = omega (arith, c.requires)

pub slice_bounds-write_number-count : goal.slice_bounds-write_number-count
slice_bounds-write_number-count c = within c.write_bytes-at.ensures

pub write_number-requires : goal.write_number-requires
write_number-requires c =
    let room : length (refused_word ++ number_then c.args.number newline) ≤ length c.args.bytes.now = rw (length-append refused_word (number_then c.args.number newline)) (omega (arith, c.requires, number_short c.args.number newline)) in
    room-behind c.write_bytes-at.ensures (number_then c.args.number newline) (room)

pub overflow_add-result : goal.overflow_add-result
overflow_add-result c =
    let room : length (refused_word ++ number_then c.args.number newline) ≤ length c.args.bytes.now = rw (length-append refused_word (number_then c.args.number newline)) (omega (arith, c.requires, number_short c.args.number newline)) in
    omega (arith, (part-behind c.write_bytes-at.ensures c.write_number.ensures).size, room, c.well_formed.1.0.0)

pub shape_of-bytes : goal.shape_of-bytes
shape_of-bytes c =
    let room : length (refused_word ++ number_then c.args.number newline) ≤ length c.args.bytes.now = rw (length-append refused_word (number_then c.args.number newline)) (omega (arith, c.requires, number_short c.args.number newline)) in
    same_size (part-behind c.write_bytes-at.ensures c.write_number.ensures) (room)

pub returns : goal.returns
unfolding refusal_line
returns c = part-behind c.write_bytes-at.ensures c.write_number.ensures
