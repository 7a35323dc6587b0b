-- Start, end and key, each behind what stands before it.
use mathlib.Core.List.{◌++◌, append_assoc}
use Prim.Native.Nat.{◌≤◌}
use native.Mathlib.Omega.{arith}
use lib.ListN.{length, length-append}
use Rattle.listing.specs.Lines.{blank, number_then, key_line, line_of}
use Rattle.listing.proofs.Behind.{same_size, within, room-behind, part-behind, as-list}
use Rattle.listing.proofs.Sizes.{line-length}
use Rattle.listing.proofs.lines.write_line.Goals as goal

pub write_number-first-requires : goal.write_number-first-requires
write_number-first-requires c = let args = c.args in omega (arith, c.requires, line-length args.start args.end args.key)

pub slice_bounds-write_number-count : goal.slice_bounds-write_number-count
slice_bounds-write_number-count c = within c.write_number-first.ensures

pub write_number-requires : goal.write_number-requires
write_number-requires c =
    let second-room : length (number_then c.args.start blank ++ number_then c.args.end blank) ≤ length c.args.bytes.now = rw length-append (omega (arith, c.requires, line-length c.args.start c.args.end c.args.key)) in
    room-behind c.write_number-first.ensures (number_then c.args.end blank) (second-room)

pub overflow_add-second : goal.overflow_add-second
overflow_add-second c =
    let second-room : length (number_then c.args.start blank ++ number_then c.args.end blank) ≤ length c.args.bytes.now = rw length-append (omega (arith, c.requires, line-length c.args.start c.args.end c.args.key)) in
    omega (arith, (part-behind c.write_number-first.ensures c.write_number.ensures).size, second-room, c.well_formed.1.1.1.0.0)

pub slice_bounds-write_key_line-count : goal.slice_bounds-write_key_line-count
slice_bounds-write_key_line-count c = within (part-behind c.write_number-first.ensures c.write_number.ensures)

pub write_key_line-requires : goal.write_key_line-requires
write_key_line-requires c =
    let whole_room : length (number_then c.args.start blank ++ number_then c.args.end blank ++ key_line c.args.key) ≤ length c.args.bytes.now = simp length-append (omega (arith, c.requires, line-length c.args.start c.args.end c.args.key)) in
    room-behind (part-behind c.write_number-first.ensures c.write_number.ensures) (key_line c.args.key) (whole_room)

pub overflow_add-result : goal.overflow_add-result
overflow_add-result c =
    let whole_room : length (number_then c.args.start blank ++ number_then c.args.end blank ++ key_line c.args.key) ≤ length c.args.bytes.now = simp length-append (omega (arith, c.requires, line-length c.args.start c.args.end c.args.key)) in
    omega (arith, (part-behind (part-behind c.write_number-first.ensures c.write_number.ensures) c.write_key_line.ensures).size, whole_room, c.well_formed.1.1.1.0.0)

pub shape_of-bytes : goal.shape_of-bytes
shape_of-bytes c =
    let whole_room : length (number_then c.args.start blank ++ number_then c.args.end blank ++ key_line c.args.key) ≤ length c.args.bytes.now = simp length-append (omega (arith, c.requires, line-length c.args.start c.args.end c.args.key)) in
    same_size (part-behind (part-behind c.write_number-first.ensures c.write_number.ensures) c.write_key_line.ensures) (whole_room)

pub returns : goal.returns
unfolding line_of
returns c =
    let args = c.args in
    as-list (append_assoc (number_then args.start blank) (number_then args.end blank) (key_line args.key))
    (part-behind (part-behind c.write_number-first.ensures c.write_number.ensures) c.write_key_line.ensures)
