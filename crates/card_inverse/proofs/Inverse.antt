-- A card that no row refuses is written again from what stands on it; and no row refuses a card that was written.
use Rattle.std.specs.Prelude.{Option, Some, is_some, Result, Ok, Err}
use mathlib.Core.Path.{◌≡◌, refl, sym, ap, ◌∙◌}
use mathlib.Core.Bool.{false, not, ◌&&◌, ◌||◌}
use mathlib.Core.List.{List}
use Prim.Native.Nat.{ℕ, ◌≤◌}
use native.Mathlib.Omega.{arith}
use lib.Dec.{eqb, ltb}
use lib.ListN.{length}
use borrow.Author.Tests.{eq-eqb, le-ltb}
use Rattle.laws.specs.Table.{first_of}
use Rattle.laws.proofs.Front.{length-list}
use Rattle.laws.proofs.Table.{end, next, reads}
use Rattle.bits.specs.Bits.{AllBytes, bits_of_bytes}
use Rattle.card.specs.Layout.{Meaning, layouts, numbered_in, layout_or1}
use Rattle.card.specs.Rules.{card_broken, layout_for, needless}
use Rattle.card.specs.declared.layout.Layout.{Layout}
use Rattle.card.proofs.Fits.{CardFits, card-fits}
use Rattle.card.proofs.Known.{Sound, known-sound, found_number}
use Rattle.card.proofs.Chosen.{Needed, some-layout, chosen-needed, needed-chosen}
use Rattle.card_form.specs.Form.{card_bytes, card_size, number_on, count_on, segment_on, meaning_on, filler_set}
use Rattle.card_form.proofs.Lengths.{length-card}
use Rattle.card_form.proofs.ReadBack.{card-bits, number_read, count-read, meaning-read, filler-clear}
use Rattle.card_form.proofs.PutAgain.{put-again}
use Rattle.card_form.proofs.Broken.{card-in}
use Rattle.card_reader.specs.declared.judge.CardError.{CardError}
use Rattle.card_reader.specs.Reading.{refused, says, layout_on, reading_table, judged_of, read_as, read_of}
use Rattle.card_reader.proofs.Ready.{ready}
use Rattle.card_inverse.specs.Inverse.{IsCardOf, ReadIsWritten, WrittenIsRead}

-- ---- what is read is written
read-is-card : (bytes : List ℕ) → AllBytes bytes → (rows : ℕ) (m : Meaning) (j : Result Layout CardError) → judged_of bytes rows ≡ j → read_as (bits_of_bytes bytes) j ≡ says m → IsCardOf m bytes × (length m.segments ≤ rows)
read-is-card bytes bytewise rows m (Err error) e r = absurd (other r)
  where
    other : {number : ℕ} → refused number ≡ says m → ⊥
    other q = let z : ◌≡◌ {A = ℕ} 0 1 = cc in omega arith
read-is-card bytes bytewise rows m (Ok l) e r =
    let bits = bits_of_bytes bytes in
    let card = ready bytes rows l e in
    let named : l.number ≡ number_on bits = found_number layouts (number_on bits) card.known in
    let said : meaning_on l bits ≡ m = cc (r) in
    let counted : length m.segments ≡ count_on l bits = ap (λ (n : Meaning). length n.segments) (sym said) ∙ length-list (segment_on l bits) (count_on l bits) in
    let kept : layout_for m ≡ Some l =
    needed-chosen m l (record { known = ap (numbered_in layouts) named ∙ card.known; good = ap (card_broken l) (sym said) ∙ card.good; needed = ap (needless l) (sym said) ∙ card.needed }) in (
      record { held = ap is_some kept; written = put-again l bytes bytewise named card.whole card.clear ∙ ap (card_bytes l) said ∙ card-in m kept },
      rw counted card.room,
    )

pub read-is-written : ReadIsWritten
read-is-written bytes bytewise rows m e = read-is-card bytes bytewise rows m (judged_of bytes rows) refl e

-- ---- what is written is read
module _ (l : Layout) (m : Meaning) (kept : layout_for m ≡ Some l) where
  abbrev bytes : List ℕ
  bytes = card_bytes l m

  abbrev bits : List ℕ
  bits = bits_of_bytes bytes

  need : Needed l m
  need = chosen-needed m l kept

  sound : Sound l
  sound = known-sound l.number need.known

  fits : CardFits l m
  fits = card-fits l m sound.fits need.good

  named : number_on bits ≡ l.number
  named = ap number_on (card-bits l m) ∙ number_read l m _ sound.fits.number

  found : layout_on bits ≡ Some l
  found = ap (numbered_in layouts) named ∙ need.known

  counted : count_on l bits ≡ length m.segments
  counted = ap (count_on l) (card-bits l m) ∙ count-read l m sound.fits fits _

  said : meaning_on l bits ≡ m
  said = ap (meaning_on l) (card-bits l m) ∙ meaning-read l m sound.fits fits _

  -- its length is the one that its count gives, and no less than seven
  sized : length bytes ≡ card_size l (count_on l bits)
  sized = length-card l m ∙ ap (card_size l) (sym counted)

  seven : ltb (length bytes) 7 ≡ false
  seven = le-ltb (length bytes) 7 (rw (length-card l m) (omega (arith, sound.long)))

  length-right : is_some (layout_on bits) && not (eqb (length bytes) (card_size l (count_on l bits))) ≡ false
  length-right = rw (found, eq-eqb (length bytes) (card_size l (count_on l bits)) sized)

  rules-kept : card_broken l (meaning_on l bits) || filler_set l bits ≡ false
  rules-kept = rw (said, need.good, filler-clear l m sound.fits fits)

  layout-needed : needless l (meaning_on l bits) ≡ false
  layout-needed = ap (needless l) said ∙ need.needed

  judged-readable : (rows : ℕ) → length m.segments ≤ rows → judged_of bytes rows ≡ Ok l
  unfolding judged_of
  judged-readable rows room =
      let roomy : ltb rows (count_on l bits) ≡ false = le-ltb rows (count_on l bits) (rw counted room) in
      ap (λ (k : Layout). first_of (reading_table bytes bits k rows) (Ok k)) (ap layout_or1 found)
      ∙ sym (reads (next seven (next length-right (next (ap (λ (f : Option Layout). not (is_some f)) found) (next rules-kept (next layout-needed (next roomy end)))))))

pub written-is-read : WrittenIsRead
written-is-read bytes rows m card room =
    let (l, kept) = some-layout (layout_for m) card.held in
    let read : read_of (card_bytes l m) rows ≡ says m = ap (read_as (bits_of_bytes (card_bytes l m))) (judged-readable l m kept rows room) ∙ ap says (said l m kept) in
    ap (λ (b : List ℕ). read_of b rows) (card.written ∙ sym (card-in m kept)) ∙ read
