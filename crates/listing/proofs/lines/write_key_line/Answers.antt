-- The name, and the end of the line behind it.
use mathlib.Core.Path.{sym}
use mathlib.Core.List.{[], ◌∷◌}
use Prim.Native.Nat.{◌<◌}
use native.Mathlib.Omega.{arith}
use lib.ListN.{length, length-append}
use Rattle.keys.specs.Numbers.{key_at}
use Rattle.key_names.specs.Names.{name_of}
use Rattle.listing.specs.Lines.{AtFront, newline, key_line}
use Rattle.listing.proofs.Behind.{byte-behind}
use Rattle.listing.proofs.lines.write_key_line.Goals as goal

pub write_name-at-requires : goal.write_name-at-requires
unfolding key_line
write_name-at-requires c =
    let key = key_at c.args.number in
    rw c.key_from_index-key.ensures (omega (arith, c.requires, length-append (name_of key) (newline ∷ [])))

pub bounds-bytes-at : goal.bounds-bytes-at
unfolding key_line
bounds-bytes-at c =
    let written : AtFront (name_of (key_at c.args.number)) c.args.bytes.now c.write_name-at.new.bytes c.write_name-at.result = rw (sym c.key_from_index-key.ensures) (record { size = c.write_name-at.ensures.0; here = c.write_name-at.ensures.1 }) in
    let room : length (name_of (key_at c.args.number)) < length c.args.bytes.now = omega (arith, c.requires, length-append (name_of (key_at c.args.number)) (newline ∷ [])) in
    omega (arith, room, (written).size, c.write_name-at.auto.bytes)

pub overflow_add-result : goal.overflow_add-result
unfolding key_line
overflow_add-result c =
    let written : AtFront (name_of (key_at c.args.number)) c.args.bytes.now c.write_name-at.new.bytes c.write_name-at.result = rw (sym c.key_from_index-key.ensures) (record { size = c.write_name-at.ensures.0; here = c.write_name-at.ensures.1 }) in
    let room : length (name_of (key_at c.args.number)) < length c.args.bytes.now = omega (arith, c.requires, length-append (name_of (key_at c.args.number)) (newline ∷ [])) in
    omega (arith, room, (written).size, c.well_formed.1.0.0)

pub returns : goal.returns
unfolding key_line
returns c =
    let written : AtFront (name_of (key_at c.args.number)) c.args.bytes.now c.write_name-at.new.bytes c.write_name-at.result = rw (sym c.key_from_index-key.ensures) (record { size = c.write_name-at.ensures.0; here = c.write_name-at.ensures.1 }) in
    let room : length (name_of (key_at c.args.number)) < length c.args.bytes.now = omega (arith, c.requires, length-append (name_of (key_at c.args.number)) (newline ∷ [])) in
    byte-behind (written) newline (room)
