-- The layout that is found, its count, and the length that they give.
use mathlib.Core.Path.{◌≡◌, sym, ap, ap₂, subst, ◌∙◌}
use mathlib.Core.List.{List}
use Prim.Native.Nat.{ℕ, min}
use native.Mathlib.Omega.{arith}
use lib.ListN.{length}
use Rattle.std.specs.Prelude.{Option, unwrap_or}
use Rattle.bits.specs.Bits.{bits_of_bytes}
use Rattle.card.specs.Layout.{LayoutFits, layout1, layouts, numbered_in, layout_or1}
use Rattle.card.specs.declared.layout.Layout.{Layout}
use Rattle.card.proofs.Known.{Sound, found-sound}
use Rattle.card_form.specs.Form.{card_size, number_on, count_on}
use Rattle.card_reader.specs.Reading.{layout_on}
use Rattle.set_places.specs.Places.{length_on}
use Rattle.set_places.proofs.places.card_end.Goals as goal

-- the layout that the bytes name, or layout 1
module _ (bits : List ℕ) {number : ℕ} {found : Option Layout} {other l : Layout} (n : number ≡ number_on bits) (f : found ≡ numbered_in layouts number) (o : other ≡ layout1) (e : l ≡ unwrap_or found other) where
  layout-is : l ≡ layout_or1 (layout_on bits)
  layout-is = e ∙ ap₂ unwrap_or (f ∙ ap (numbered_in layouts) n) o

  layout-fits : LayoutFits l
  layout-fits = (subst Sound (sym layout-is) (found-sound (number_on bits))).fits

pub count_on-count-requires : goal.count_on-count-requires
count_on-count-requires c =
    let fits = layout-fits (bits_of_bytes c.args.place.now) c.number_on.ensures c.layout_numbered.ensures c.layout_1.ensures c.unwrap_or-l.ensures in
    (fits, omega (arith, fits.count, c.requires))

pub card_size-requires : goal.card_size-requires
card_size-requires c = (layout-fits (bits_of_bytes c.args.place.now) c.number_on.ensures c.layout_numbered.ensures c.layout_1.ensures c.unwrap_or-l.ensures, c.count_on-count.ensures.1)

pub returns : goal.returns
unfolding length_on
returns c =
    let bits = bits_of_bytes c.args.place.now in
    let is = layout-is bits c.number_on.ensures c.layout_numbered.ensures c.layout_1.ensures c.unwrap_or-l.ensures in
    c.min.ensures
    ∙ ap (λ (n : ℕ). min n (length c.args.place.now)) (c.card_size.ensures ∙ ap₂ card_size is (c.count_on-count.ensures.0 ∙ ap (λ (l : Layout). count_on l bits) is))
