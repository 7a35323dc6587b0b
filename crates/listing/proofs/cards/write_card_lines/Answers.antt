-- Without a key, the one line; else the key's line, and the segments' behind it.
use mathlib.Core.Path.{◌≡◌, sym, ap, ap₂, ◌∙◌}
use mathlib.Core.List.{◌++◌}
use Prim.Native.Nat.{ℕ, ◌*◌, ◌≤◌}
use native.Mathlib.Omega.{arith}
use lib.ListN.{length}
use Rattle.laws.specs.Front.{list}
use Rattle.laws.proofs.Front.{length-list}
use Rattle.bits.specs.Bits.{bits_of_bytes}
use Rattle.card.specs.Layout.{most_segments}
use Rattle.card.specs.declared.layout.Header.{Header}
use Rattle.card_form.specs.Form.{header_width, segment_on, meaning_on}
use Rattle.listing.specs.Lines.{key_line}
use Rattle.listing.specs.Listing.{segment_lines}
use Rattle.listing.proofs.Behind.{rest-long, as-list, same_size, within, part-behind}
use Rattle.listing.proofs.Sizes.{key-short}
use Rattle.listing.proofs.Whole.{without-key, with-key, card-short}
use Rattle.listing.proofs.cards.write_card_lines.Goals as goal

pub header_on-header-requires : goal.header_on-header-requires
header_on-header-requires c =
    let header-inside : header_width c.args.l ≤ length c.args.card.now * 8 = omega (arith, c.requires.0.long) in
    (c.requires.0.fits, header-inside)

pub count_on-count-requires : goal.count_on-count-requires
count_on-count-requires c =
    let header-inside : header_width c.args.l ≤ length c.args.card.now * 8 = omega (arith, c.requires.0.long) in
    (c.requires.0.fits, header-inside)

pub write_bytes-requires : goal.write_bytes-requires
write_bytes-requires c = omega (arith, c.requires.1)

pub returns-then-key-eq24 : goal.returns-then-key-eq24
returns-then-key-eq24 c =
    let silent : ((meaning_on c.args.l (bits_of_bytes c.args.card.now))).header.key ≡ 24 = sym (ap (λ (h : Header). h.key) c.header_on-header.ensures) ∙ c.if-key-eq24.true in
    as-list (sym (without-key ((meaning_on c.args.l (bits_of_bytes c.args.card.now))) silent)) c.write_bytes.ensures

pub write_key_line-at-requires : goal.write_key_line-at-requires
write_key_line-at-requires c = omega (arith, c.requires.1, key-short c.header_on-header.result.key)

pub slice_bounds-write_lines-count : goal.slice_bounds-write_lines-count
slice_bounds-write_lines-count c = within c.write_key_line-at.ensures

pub write_lines-requires : goal.write_lines-requires
write_lines-requires c =
    let call = c.write_key_line-at in
    let short = key-short c.header_on-header.result.key in
    let long = same_size call.ensures (omega (arith, c.requires.1)) in
    let left = rest-long call.new.bytes call.result in
    let count = c.count_on-count.ensures.0 in
    (c.requires.0, count, omega (arith, c.requires.1, c.requires.0.few, call.ensures.size))

pub overflow_add-result : goal.overflow_add-result
overflow_add-result c =
    let room : length (key_line (c.header_on-header.result.key) ++ segment_lines ((list (segment_on c.args.l (bits_of_bytes c.args.card.now)) c.count_on-count.result))) ≤ length c.args.bytes.now = let size = length-list (segment_on c.args.l (bits_of_bytes c.args.card.now)) c.count_on-count.result in
    let few : length ((list (segment_on c.args.l (bits_of_bytes c.args.card.now)) c.count_on-count.result)) ≤ most_segments = omega (arith, c.requires.0.few, c.count_on-count.ensures.0) in
    omega (arith, card-short (c.header_on-header.result.key) ((list (segment_on c.args.l (bits_of_bytes c.args.card.now)) c.count_on-count.result)) few, c.requires.1) in
    omega (arith, (part-behind c.write_key_line-at.ensures c.write_lines.ensures).size, room, c.well_formed.1.1.0.0)

pub shape_of-bytes : goal.shape_of-bytes
shape_of-bytes c =
    let room : length (key_line (c.header_on-header.result.key) ++ segment_lines ((list (segment_on c.args.l (bits_of_bytes c.args.card.now)) c.count_on-count.result))) ≤ length c.args.bytes.now = let size = length-list (segment_on c.args.l (bits_of_bytes c.args.card.now)) c.count_on-count.result in
    let few : length ((list (segment_on c.args.l (bits_of_bytes c.args.card.now)) c.count_on-count.result)) ≤ most_segments = omega (arith, c.requires.0.few, c.count_on-count.ensures.0) in
    omega (arith, card-short (c.header_on-header.result.key) ((list (segment_on c.args.l (bits_of_bytes c.args.card.now)) c.count_on-count.result)) few, c.requires.1) in
    same_size (part-behind c.write_key_line-at.ensures c.write_lines.ensures) (room)

pub returns : goal.returns
returns c =
    let m = (meaning_on c.args.l (bits_of_bytes c.args.card.now)) in
    let key-is : c.header_on-header.result.key ≡ m.header.key = ap (λ (h : Header). h.key) c.header_on-header.ensures in
    let loud : m.header.key ≡ 24 → ⊥ = λ e. c.if-key-eq24.false (key-is ∙ e) in
    let same = ap₂ (λ (k n : ℕ). key_line k ++ segment_lines (list (segment_on c.args.l (bits_of_bytes c.args.card.now)) n)) key-is c.count_on-count.ensures.0 in
    as-list (same ∙ sym (with-key m loud)) (part-behind c.write_key_line-at.ensures c.write_lines.ensures)
