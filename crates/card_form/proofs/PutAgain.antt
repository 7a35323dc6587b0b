-- What stands on a card, put again, gives its bits: each field is put where it was read.
use mathlib.Core.Path.{◌≡◌, sym, ap, ap₂, ◌∙◌}
use mathlib.Core.List.{List, ◌++◌, append_assoc, append-nil}
use Prim.Native.Nat.{ℕ, zero, suc, ◌+◌, ◌-◌, ◌*◌, ◌≤◌}
use native.Mathlib.Nat.{suc-mul}
use native.Mathlib.Numerals.{add-one}
use native.Mathlib.Omega.{arith}
use lib.ListN.{length, take, drop, replicate, length-drop, take-append-drop}
use lib.Seq.{take-add}
use borrow.Author.Tests.{eqb-true, not-false}
use mathlib.Core.Bool.{false}
use Rattle.laws.specs.Front.{list}
use Rattle.laws.proofs.Front.{length-list}
use Rattle.bits.specs.Bits.{AllBytes, bits_of, number_of, bits_of_bytes, bytes_for}
use Rattle.bits.proofs.Digits.{length-bytes}
use Rattle.bits.proofs.Puts.{bits-zero, bytes-are}
use Rattle.bits.proofs.Binary.{Binary, binary-bytes, binary-drop, spelled}
use Rattle.bits.proofs.Fields.{total, fields-again}
use Rattle.card.specs.declared.layout.Layout.{Layout}
use Rattle.card_form.specs.Form.{header_widths, header_width, header_bits, header_on, count_on, number_on, segment_widths, segment_width, segment_bits, segments_bits, segment_place, segment_on, card_bits, card_bytes, card_size, meaning_on, filler_set}
use Rattle.card_form.proofs.Lengths.{one_more, length-card-bits}

module _ (l : Layout) (bits : List ℕ) (b : Binary bits) where
  header-again : header_width l ≤ length bits → l.number ≡ number_on bits → header_bits l (header_on l bits) (count_on l bits) ≡ take (header_width l) bits
  unfolding header_on count_on
  header-again inside named =
      let whole : header_width l ≡ total (header_widths l) = omega arith in
      rw (whole, named) (fields-again (header_widths l) bits b (rw (← whole) inside))

  segment-again : (i : ℕ) → segment_place l (suc i) ≤ length bits → segment_bits l (segment_on l bits i) ≡ take (segment_width l) (drop (segment_place l i) bits)
  unfolding segment_on
  segment-again i inside =
      let whole : segment_width l ≡ total (segment_widths l) = omega arith in
      let left : total (segment_widths l) ≤ length (drop (segment_place l i) bits) = rw (length-drop (segment_place l i) bits) (omega (arith, suc-mul i (segment_width l))) in
      fields-again (segment_widths l) (drop (segment_place l i) bits) (binary-drop (segment_place l i) b) left
      ∙ ap (λ (w : ℕ). take w (drop (segment_place l i) bits)) (sym whole)

  next_place : (i : ℕ) → segment_place l (suc i) ≡ segment_place l i + segment_width l
  next_place i = omega (arith, suc-mul i (segment_width l))

  -- a front of the bits, with the first n segments put behind it
  segments-again : (xs : List ℕ) → xs ≡ take (header_width l) bits → (n : ℕ) → segment_place l n ≤ length bits → xs ++ segments_bits l (list (segment_on l bits) n) ≡ take (segment_place l n) bits
  unfolding segments_bits list
  segments-again xs e zero inside = append-nil xs ∙ e ∙ ap (λ (k : ℕ). take k bits) (sym none)
    where
      none : segment_place l 0 ≡ header_width l
      none = omega arith
  segments-again xs e (suc n) inside =
      let before = segments-again xs e n (omega (arith, next_place n)) in
      let here = segment_bits l (segment_on l bits n) in
      let more : segments_bits l (list (segment_on l bits) (suc n)) ≡ segments_bits l (list (segment_on l bits) n) ++ here = ap (λ (k : ℕ). segments_bits l (list (segment_on l bits) k)) (sym (add-one n)) ∙ one_more l (segment_on l bits) n in
      ap (λ (ys : List ℕ). xs ++ ys) more
      ∙ sym (append_assoc xs (segments_bits l (list (segment_on l bits) n)) here)
      ∙ ap₂ (λ (ys zs : List ℕ). ys ++ zs) before (segment-again n inside)
      ∙ sym (take-add (segment_place l n) (segment_width l) bits)
      ∙ ap (λ (k : ℕ). take k bits) (sym (next_place n))

  -- the bits of what stands on a card are its own, up to the filler
  card-again : segment_place l (count_on l bits) ≤ length bits → l.number ≡ number_on bits → card_bits l (meaning_on l bits) ≡ take (segment_place l (count_on l bits)) bits
  card-again inside named =
      segments-again (header_bits l (header_on l bits) (length (list (segment_on l bits) (count_on l bits))))
      (ap (header_bits l (header_on l bits)) (length-list (segment_on l bits) (count_on l bits)) ∙ header-again (omega (arith, inside)) named)
      (count_on l bits) inside

  -- a filler of which no bit is set is zeros
  filler-again : filler_set l bits ≡ false → drop (segment_place l (count_on l bits)) bits ≡ replicate (length bits - segment_place l (count_on l bits)) 0
  unfolding filler_set
  filler-again clear =
      let rest = drop (segment_place l (count_on l bits)) bits in
      let none : number_of rest ≡ 0 = eqb-true (number_of rest) 0 (not-false _ clear) in
      sym (spelled rest (binary-drop (segment_place l (count_on l bits)) b)).same
      ∙ ap₂ bits_of (length-drop (segment_place l (count_on l bits)) bits) none
      ∙ bits-zero _

-- bytes of the right length, with no filler bit set, are the card of what stands on them
pub put-again : (l : Layout) (bytes : List ℕ) → AllBytes bytes →
    let bits = bits_of_bytes bytes in
    l.number ≡ number_on bits → length bytes ≡ card_size l (count_on l bits) → filler_set l bits ≡ false → bytes ≡ card_bytes l (meaning_on l bits)
unfolding card_bytes
put-again l bytes known named size clear =
    let bits = bits_of_bytes bytes in
    let place = segment_place l (count_on l bits) in
    let m = meaning_on l bits in
    let long : length bits ≡ length bytes * 8 = length-bytes bytes in
    let inside : place ≤ length bits = omega (arith, long, size) in
    let counted : length m.segments ≡ count_on l bits = length-list (segment_on l bits) (count_on l bits) in
    let bits-long : length (card_bits l m) ≡ place = length-card-bits l m ∙ ap (segment_place l) counted in
    let rest : length bits - place ≡ bytes_for (length (card_bits l m)) * 8 - length (card_bits l m) = rw bits-long (omega (arith, long, size)) in
    bytes-are bytes (card_bits l m) known (size ∙ ap bytes_for (sym bits-long))
    (sym (take-append-drop place bits)
    ∙ ap₂ (λ (xs ys : List ℕ). xs ++ ys) (sym (card-again l bits (binary-bytes bytes) inside named)) (filler-again l bits (binary-bytes bytes) clear ∙ ap (λ (k : ℕ). replicate k 0) rest))
