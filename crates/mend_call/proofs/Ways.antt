-- Each way out of the call is a row of the table, those above it having failed, or the mended card.
use Rattle.std.specs.Prelude.{Option, Some, None, is_some}
use mathlib.Core.Path.{◌≡◌, sym, ap, ap₂, subst, ◌∙◌}
use mathlib.Core.Bool.{Bool, true, false, not, ◌&&◌}
use mathlib.Core.List.{List}
use Prim.Native.Nat.{ℕ, ◌*◌, ◌^◌, ◌≤◌, ◌<◌}
use native.Mathlib.Omega.{arith}
use lib.Dec.{eqb}
use lib.ListN.{length, drop}
use borrow.Author.Tests.{lt-ltb, le-ltb}
use Rattle.laws.specs.Front.{front}
use Rattle.laws.proofs.Table.{Reads, here, next, end, reads}
use Rattle.numbers.specs.Flags.{one_if}
use Rattle.bits.specs.Bits.{bits_of_bytes}
use Rattle.card.specs.Layout.{LayoutFits, layouts, numbered_in, layout_or1}
use Rattle.card.specs.Rules.{card_broken}
use Rattle.card.specs.declared.layout.Layout.{Layout}
use Rattle.card.specs.declared.layout.Header.{Header}
use Rattle.card.specs.declared.layout.Segment.{Segment}
use Rattle.card.proofs.Known.{Sound, known-sound, found_number}
use Rattle.card.proofs.Chosen.{Needed}
use Rattle.card_form.specs.Form.{header_width, segment_place, number_on, header_on, count_on, segment_on, card_bytes, card_size}
use Rattle.card_reader.specs.Reading.{layout_on}
use Rattle.card_pen.specs.inside.Putting.{CanWrite}
use Rattle.card_pen.proofs.Puts.{card-length}
use Rattle.card_mender.specs.Mending.{has_no_key, key_broken, alternate_goes, mended_header, kept_on, with_first, mended_meaning, mended_layout, mended_card}
use Rattle.card_mender.proofs.Mended.{kept_there, kept-few, mended-good, mended-needed}
use Rattle.mend_call.specs.Mends.{card_mended, MendOutcome, mend_outcome, mend_table, mended, mend_call}
use Rattle.mend_call.specs.inside.Mendable.{Headed}
use Rattle.mend_call.specs.declared.CardMended.{CardMended}

module _ (bytes room : List ℕ) where
  abbrev bits : List ℕ
  bits = bits_of_bytes bytes

  -- an answer, with the room as it was
  abbrev refused_by : CardMended → MendOutcome
  refused_by r = mend_outcome r room

  -- the layout that the bytes name, or that stands in
  abbrev named : Layout
  named = layout_or1 (layout_on bits)

  -- a row that is reached decides
  decided : {o : MendOutcome} → Reads (mended bytes named room) (mend_table bytes named room) o → o ≡ mend_call bytes room
  unfolding mend_call
  decided r = reads r

  pub too_short : {r : CardMended} → length bytes < 7 → r ≡ card_mended 40 0 0 0 0 → refused_by r ≡ mend_call bytes room
  too_short less e = ap refused_by e ∙ decided (here (lt-ltb _ _ less))

  pub unknown-layout : {r : CardMended} → 7 ≤ length bytes → layout_on bits ≡ None → r ≡ card_mended 41 0 0 0 0 → refused_by r ≡ mend_call bytes room
  unknown-layout long missing e = ap refused_by e ∙ decided (next (le-ltb _ _ long) (here (ap (λ (f : Option Layout). not (is_some f)) missing)))

  -- the layout is known, and its header is there
  module _ (l : Layout) (headed : Headed bytes l) where
    past : {o : MendOutcome} → Reads (mended bytes l room) (drop 2 (mend_table bytes l room)) o → o ≡ mend_call bytes room
    past {o} r =
        let is : l ≡ named = ap layout_or1 (sym headed.known) in
        decided
        (next (le-ltb _ _ headed.long)
        (next (ap (λ (f : Option Layout). not (is_some f)) headed.known)
        (subst (λ (k : Layout). Reads (mended bytes k room) (drop 2 (mend_table bytes k room)) o) is r)))

    abbrev header : Header
    header = header_on l bits

    -- nothing is kept, though there is a key
    abbrev none : Bool
    none = not (has_no_key header) && eqb (kept_on l bytes) 0

    pub key-refused : {r : CardMended} → key_broken l header ≡ true → r ≡ card_mended 42 0 0 0 0 → refused_by r ≡ mend_call bytes room
    key-refused t e = ap refused_by e ∙ past (here t)

    pub none_kept : {r : CardMended} → key_broken l header ≡ false → none ≡ true → r ≡ card_mended 43 0 0 0 0 → refused_by r ≡ mend_call bytes room
    none_kept keyed t e = ap refused_by e ∙ past (next keyed (here t))

    pub sound : Sound l
    sound = known-sound (number_on bits) headed.known

    pub header-there : header_width l ≤ length bytes * 8
    header-there = omega (arith, headed.long, sound.fits.count)

    -- what is kept, with its layout, as it was worked out
    module _ (keyed : key_broken l header ≡ false) (some : none ≡ false) {h : Header} {n : ℕ} (eh : h ≡ mended_header l header) (en : n ≡ kept_on l bytes) where
      abbrev at : ℕ → Segment
      at = segment_on l bits

      said : with_first l bits h n ≡ mended_meaning l bytes
      said = ap₂ (with_first l bits) eh en

      there : segment_place l n ≤ length bytes * 8
      there = subst (λ (k : ℕ). segment_place l k ≤ length bytes * 8) (sym en) (kept_there l bytes sound header-there)

      few : n < 2 ^ 32
      few = subst (λ (k : ℕ). k < 2 ^ 32) (sym en) (kept-few l bytes sound header-there)

      pub can-choose : LayoutFits l × (n < 2 ^ 32) × (segment_place l n ≤ length bytes * 8)
      can-choose = (sound.fits, few, there)

      module _ {to : Layout} (et : to ≡ mended_layout l (with_first l bits h n)) where
        layout_is : to ≡ mended_layout l (mended_meaning l bytes)
        layout_is = et ∙ ap (mended_layout l) said

        need : Needed (mended_layout l (mended_meaning l bytes)) (mended_meaning l bytes)
        need =
            let named : numbered_in layouts l.number ≡ Some l = ap (numbered_in layouts) (found_number layouts (number_on bits) headed.known) ∙ headed.known in
            mended-needed l (mended_meaning l bytes) named (mended-good l bytes sound header-there keyed some)

        fits : LayoutFits to
        fits = subst LayoutFits (sym layout_is) (known-sound (mended_layout l (mended_meaning l bytes)).number need.known).fits

        card-is : card_bytes to (with_first l bits h n) ≡ mended_card l bytes
        card-is = ap₂ card_bytes layout_is said

        size_is : {size : ℕ} → size ≡ card_size to n → size ≡ length (mended_card l bytes)
        size_is e = e ∙ sym (card-length to h at n) ∙ ap length card-is

        pub can-measure : LayoutFits to × (n < 2 ^ 32)
        can-measure = (fits, few)

        module _ {size : ℕ} (es : size ≡ card_size to n) where
          pub no_room : {r : CardMended} → length room < size → r ≡ card_mended 44 0 0 0 0 → refused_by r ≡ mend_call bytes room
          no_room less e = ap refused_by e ∙ past (next keyed (next some (here (lt-ltb _ _ (subst (λ (k : ℕ). length room < k) (size_is es) less)))))

          module _ (enough : size ≤ length room) where
            pub can_write : CanWrite room to h at n × LayoutFits l × (n < 2 ^ 32) × (segment_place l n ≤ length bytes * 8)
            can_write = (
              record { layout = fits; good = ap₂ card_broken layout_is said ∙ need.good; room = subst (λ (k : ℕ). k ≤ length room) es enough },
              sound.fits,
              few,
              there,
            )

            pub card-mended : {went claimed written : ℕ} {after : List ℕ} →
                went ≡ one_if (alternate_goes l header) → claimed ≡ count_on l bits → written ≡ card_size to n → after ≡ front (card_bytes to (with_first l bits h n)) room → mend_outcome (card_mended 0 went n claimed written) after ≡ mend_call bytes room
            card-mended ew ec el put =
                rw (ew, en, ec, size_is el, put, card-is) (past (next keyed (next some (next (le-ltb _ _ (subst (λ (k : ℕ). k ≤ length room) (size_is es) enough)) end))))
