-- The length and the layout are the first rows; all others are behind them.
use Rattle.std.specs.Prelude.{Option}
use mathlib.Core.Path.{◌≡◌, sym, ap, ◌∙◌}
use Rattle.bits.specs.Bits.{bits_of_bytes}
use Rattle.card.specs.Layout.{layouts, numbered_in}
use Rattle.card.specs.declared.layout.Layout.{Layout}
use Rattle.card_reader.specs.Reading.{layout_on}
use Rattle.mend_call.proofs.Ways.{too_short, unknown-layout}
use Rattle.mend_call.proofs.mend_card.Goals as goal

pub returns-then-bytes-lt7 : goal.returns-then-bytes-lt7
returns-then-bytes-lt7 c = too_short c.args.bytes.now c.args.room.now c.if-bytes-lt7.true c.unmended.ensures

pub mend_headed-requires : goal.mend_headed-requires
mend_headed-requires c =
    let layout_is : (f : Option Layout) → c.layout_numbered-found.result ≡ f → layout_on (bits_of_bytes c.args.bytes.now) ≡ f = λ w0 e. sym (c.layout_numbered-found.ensures ∙ ap (numbered_in layouts) c.number_on.ensures) ∙ e in
    record { long = c.if-bytes-lt7.false; known = layout_is _ c.in-Some.is }

pub returns-in-None : goal.returns-in-None
returns-in-None c =
    let layout_is : (f : Option Layout) → c.layout_numbered-found.result ≡ f → layout_on (bits_of_bytes c.args.bytes.now) ≡ f = λ w0 e. sym (c.layout_numbered-found.ensures ∙ ap (numbered_in layouts) c.number_on.ensures) ∙ e in
    unknown-layout c.args.bytes.now c.args.room.now c.if-bytes-lt7.false (layout_is _ c.in-None.is) c.unmended-in-None.ensures

pub returns-in-Some : goal.returns-in-Some
returns-in-Some c = c.mend_headed.ensures
