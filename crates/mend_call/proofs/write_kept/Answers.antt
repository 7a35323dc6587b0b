-- What was worked out is what the definition keeps; then either the room is too small, or the card is written.
use mathlib.Core.Path.{◌≡◌, ap, ◌∙◌}
use Rattle.bits.specs.Bits.{bits_of_bytes}
use Rattle.numbers.specs.Flags.{one_if}
use Rattle.card_form.specs.Form.{header_on}
use Rattle.card_mender.specs.Mending.{alternate_goes, mended_header}
use Rattle.mend_call.proofs.Ways.{can-choose, can-measure, no_room, can_write, card-mended}
use Rattle.mend_call.proofs.write_kept.Goals as goal

pub mended_layout-to-requires : goal.mended_layout-to-requires
mended_layout-to-requires c =
    let header_is : c.mended_header-h.result ≡ mended_header c.args.l (header_on c.args.l (bits_of_bytes c.args.bytes.now)) = c.mended_header-h.ensures ∙ ap (mended_header c.args.l) c.requires.header in
    can-choose c.args.bytes.now c.args.room.now c.args.l c.requires.headed c.requires.keyed c.requires.some header_is c.requires.left

pub card_size-requires : goal.card_size-requires
card_size-requires c =
    let header_is : c.mended_header-h.result ≡ mended_header c.args.l (header_on c.args.l (bits_of_bytes c.args.bytes.now)) = c.mended_header-h.ensures ∙ ap (mended_header c.args.l) c.requires.header in
    can-measure c.args.bytes.now c.args.room.now c.args.l c.requires.headed c.requires.keyed c.requires.some header_is c.requires.left c.mended_layout-to.ensures

pub returns-then-room-card_size : goal.returns-then-room-card_size
returns-then-room-card_size c =
    let header_is : c.mended_header-h.result ≡ mended_header c.args.l (header_on c.args.l (bits_of_bytes c.args.bytes.now)) = c.mended_header-h.ensures ∙ ap (mended_header c.args.l) c.requires.header in
    no_room c.args.bytes.now c.args.room.now c.args.l c.requires.headed c.requires.keyed c.requires.some header_is c.requires.left c.mended_layout-to.ensures c.card_size.ensures c.if-room-card_size.true c.unmended.ensures

pub write_card-length-requires : goal.write_card-length-requires
write_card-length-requires c =
    let header_is : c.mended_header-h.result ≡ mended_header c.args.l (header_on c.args.l (bits_of_bytes c.args.bytes.now)) = c.mended_header-h.ensures ∙ ap (mended_header c.args.l) c.requires.header in
    can_write c.args.bytes.now c.args.room.now c.args.l c.requires.headed c.requires.keyed c.requires.some header_is c.requires.left c.mended_layout-to.ensures c.card_size.ensures c.if-room-card_size.false

pub returns : goal.returns
returns c =
    let header_is : c.mended_header-h.result ≡ mended_header c.args.l (header_on c.args.l (bits_of_bytes c.args.bytes.now)) = c.mended_header-h.ensures ∙ ap (mended_header c.args.l) c.requires.header in
    card-mended c.args.bytes.now c.args.room.now c.args.l c.requires.headed c.requires.keyed c.requires.some header_is c.requires.left c.mended_layout-to.ensures c.card_size.ensures c.if-room-card_size.false
    (c.one_if-went.ensures ∙ ap one_if (c.alternate_goes.ensures ∙ ap (alternate_goes c.args.l) c.requires.header))
    c.requires.counted
    c.write_card-length.ensures.0
    c.write_card-length.ensures.1
