-- A card in its place is found there again: layout and count stand in its first bytes, so its length is the same.
use Rattle.std.specs.Prelude.{Result, Ok}
use mathlib.Core.Path.{◌≡◌, refl, sym, ap, ap₂, subst, ◌∙◌}
use mathlib.Core.Bool.{Bool, true, false, not, ◌&&◌}
use mathlib.Core.List.{List, [], ◌∷◌, ◌++◌}
use Prim.Native.Nat.{ℕ, ◌-◌, ◌*◌, ◌<◌, ◌≤◌}
use native.Mathlib.Omega.{arith}
use lib.Dec.{T}
use lib.ListN.{length, get_or, take, drop, replicate, length-drop}
use lib.Seq.{take-append-le, drop-append-le}
use Rattle.bits.specs.Bits.{bits_of_bytes, number_of, fields_of}
use Rattle.bits.proofs.Digits.{bytes-append, length-bytes}
use Rattle.bits.proofs.Fields.{total}
use Rattle.card.specs.Layout.{most_segments, layouts, numbered_in, layout_or1}
use Rattle.card.specs.declared.layout.Layout.{Layout}
use Rattle.card_form.specs.Form.{header_widths, header_width, card_size, number_on, count_on}
use Rattle.card_reader.specs.declared.judge.CardError.{CardError}
use Rattle.card_reader.specs.Reading.{layout_on, judged_of, read_as}
use Rattle.card_reader.proofs.Ready.{Ready, ready}
use Rattle.set_places.specs.Places.{places, place_size, set_size, place_at, all_zero, length_on, card_in, read_whole, is_read, spoilt, in_place}
use Rattle.set_places.proofs.Zeros.{in_place_lem, card-of, behind-of, none-in-place, are-zeros, drop-zeros, take-zeros, passed}

-- ---- fields at the front, whatever stands behind them
fields-front : (widths bits rest : List ℕ) → total widths ≤ length bits → fields_of widths (bits ++ rest) ≡ fields_of widths bits
fields-front [] bits rest h = refl
fields-front (w ∷ ws) bits rest h =
    let left : total ws ≤ length (drop w bits) = rw (length-drop w bits) (omega (arith, h)) in
    ap₂ (λ (n : ℕ) (ns : List ℕ). n ∷ ns)
    (ap number_of (take-append-le w bits rest (omega (arith, h))))
    (ap (fields_of ws) (drop-append-le w bits rest (omega (arith, h))) ∙ fields-front ws (drop w bits) rest left)

count-front : (l : Layout) (bits rest : List ℕ) → header_width l ≤ length bits → count_on l (bits ++ rest) ≡ count_on l bits
unfolding count_on
count-front l bits rest h = let whole : total (header_widths l) ≤ length bits = omega (arith, h) in ap (λ (fields : List ℕ). get_or fields 6 0) (fields-front (header_widths l) bits rest whole)

number-front : (bits rest : List ℕ) → 4 ≤ length bits → number_on (bits ++ rest) ≡ number_on bits
number-front bits rest h = ap number_of (take-append-le 4 bits rest h)

-- ---- a card that reads, with zeros behind it
module _ (card : List ℕ) (l : Layout) (fits : length card ≤ place_size) (readable : judged_of card most_segments ≡ Ok l) where
  r : Ready card most_segments l
  r = ready card most_segments l readable

  abbrev bits : List ℕ
  bits = bits_of_bytes card

  abbrev rest : List ℕ
  rest = bits_of_bytes (replicate (place_size - length card) 0)

  bits_are : bits_of_bytes (in_place card) ≡ bits ++ rest
  bits_are = ap bits_of_bytes (in_place_lem card fits) ∙ bytes-append card (replicate (place_size - length card) 0)

  long : 56 ≤ length bits
  long = omega (arith, length-bytes card, r.long)

  layout_is : layout_or1 (layout_on (bits_of_bytes (in_place card))) ≡ l
  layout_is =
      ap (λ (b : List ℕ). layout_or1 (layout_on b)) bits_are
      ∙ ap (λ (n : ℕ). layout_or1 (numbered_in layouts n)) (number-front bits rest (omega (arith, long)))
      ∙ ap layout_or1 r.known

  length-is : length_on (in_place card) ≡ length card
  unfolding length_on
  length-is =
      let header : header_width l ≤ length bits = omega (arith, long, r.sound.fits.count) in
      ap₂ (λ (k : Layout) (b : List ℕ). card_size k (count_on k b)) layout_is bits_are
      ∙ ap (card_size l) (count-front l bits rest header)
      ∙ sym r.whole

  -- it is the card in the place, and only zeros are behind it
  pub card-in-place : card_in (in_place card) ≡ card
  card-in-place = ap (λ (n : ℕ). take n (in_place card)) length-is ∙ card-of card fits

  behind-zero : T (all_zero (drop (length_on (in_place card)) (in_place card)))
  behind-zero = subst (λ (xs : List ℕ). T (all_zero xs)) (sym (ap (λ (n : ℕ). drop n (in_place card)) length-is ∙ behind-of card fits)) (are-zeros (place_size - length card))

  pub reads-in-place : is_read (read_whole (card_in (in_place card))) ≡ true
  reads-in-place = ap (λ (bytes : List ℕ). is_read (read_whole bytes)) card-in-place ∙ ap (λ (j : Result Layout CardError). is_read (read_as bits j)) readable

  pub sound-in-place : spoilt (in_place card) ≡ false
  unfolding spoilt
  sound-in-place = both (all_zero (in_place card)) (is_read (read_whole (card_in (in_place card)))) (all_zero (drop (length_on (in_place card)) (in_place card))) reads-in-place behind-zero
    where
      both : (zero read behind : Bool) → read ≡ true → T behind → not zero && not (read && behind) ≡ false
      both true read behind e t = refl
      both false true true e t = refl
      both false true false e t = elim t [ ]
      both false false behind e t = absurd (let z : ◌≡◌ {A = ℕ} 0 1 = cc in omega arith)

-- a free place is not spoilt
pub free-sound : spoilt (in_place []) ≡ false
unfolding spoilt
free-sound = ap (λ (b : Bool). not b && not (is_read (read_whole (card_in (in_place []))) && all_zero (drop (length_on (in_place [])) (in_place [])))) (passed (all_zero (in_place [])) (subst (λ (xs : List ℕ). T (all_zero xs)) (sym none-in-place) (are-zeros place_size)))

-- every place of zeros is free
pub zeros-free : (i : ℕ) → i < places → place_at (replicate set_size 0) i ≡ in_place []
unfolding place_at
zeros-free i h =
    ap (take place_size) (drop-zeros (i * place_size) set_size (omega (arith, h)))
    ∙ take-zeros place_size (set_size - i * place_size) (omega (arith, h))
    ∙ sym none-in-place
