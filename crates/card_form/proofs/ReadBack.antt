-- What was put on a card is read from it: its bits behind each other, field by field.
use mathlib.Core.Path.{◌≡◌, sym, ap, ap₂, ◌∙◌}
use mathlib.Core.List.{List, [], ◌∷◌, ◌++◌, append_assoc, append-nil}
use mathlib.Core.Bool.{false, not}
use Prim.Native.Nat.{ℕ, suc, ◌-◌, ◌*◌, ◌^◌, ◌<◌}
use native.Mathlib.Nat.{zero-mod}
use lib.Dec.{eqb}
use native.Mathlib.Omega.{arith}
use lib.ListN.{length, take, drop, get_or, replicate, length-append, take-append-drop}
use lib.Seq.{drop_at, drop-cons, length-take-le}
use Rattle.laws.specs.Front.{list}
use Rattle.laws.proofs.Front.{list_same, list-own}
use Rattle.bits.specs.Bits.{number_of, bits_of_bytes, bytes_for, with_filler, field_bits, fields_of}
use Rattle.bits.proofs.Digits.{number-bits}
use Rattle.bits.proofs.Puts.{bits-zero}
use Rattle.bits.proofs.Binary.{Binary, binary-none, binary-append, binary-bits, bits_of_bytes_lem}
use Rattle.bits.proofs.Fields.{none_left, and_fits, fields_read}
use Rattle.card.specs.Layout.{Meaning, LayoutFits}
use Rattle.card.specs.Rules.{card_segment}
use Rattle.card.specs.declared.layout.Layout.{Layout}
use Rattle.card.specs.declared.layout.Header.{Header}
use Rattle.card.specs.declared.layout.Segment.{Segment}
use Rattle.card.proofs.Fits.{CardFits}
use Rattle.card_form.specs.Form.{header_widths, header_bits, header_field, header_on, count_on, number_on, segment_widths, segment_bits, segments_bits, segment_place, segment_field, segment_on, card_bits, card_bytes, meaning_on, filler_set}
use Rattle.card_form.proofs.Lengths.{length-header, length-segments, length-card-bits, segments-append}

-- ---- the bits of a card's bytes
binary-fields : (widths numbers : List ℕ) → Binary (field_bits widths numbers)
binary-fields [] numbers = binary-none
binary-fields (w ∷ ws) [] = binary-none
binary-fields (w ∷ ws) (n ∷ ns) = binary-append (binary-bits w n) (binary-fields ws ns)

binary-segments : (l : Layout) (ss : List Segment) → Binary (segments_bits l ss)
unfolding segments_bits
binary-segments l [] = binary-none
binary-segments l (s ∷ ss) = binary-append (binary-fields (segment_widths l) (s.end ∷ s.key ∷ s.confidence ∷ [])) (binary-segments l ss)

pub card-bits : (l : Layout) (m : Meaning) → bits_of_bytes (card_bytes l m) ≡ with_filler (card_bits l m)
unfolding card_bytes
card-bits l m =
    let h = m.header in
    bits_of_bytes_lem (card_bits l m)
    (binary-append
    (binary-fields (header_widths l) (l.number ∷ h.key ∷ h.dsp ∷ h.alternate ∷ h.coverage ∷ h.confidence ∷ length m.segments ∷ []))
    (binary-segments l m.segments))

-- ---- the layout's number, in the first four bits
pub number_read : (l : Layout) (m : Meaning) (rest : List ℕ) → l.number < 2 ^ 4 → number_on (card_bits l m ++ rest) ≡ l.number
number_read l m rest fits =
    let h = m.header in
    let more = field_bits (5 ∷ 5 ∷ 5 ∷ 10 ∷ 10 ∷ l.count ∷ []) (h.key ∷ h.dsp ∷ h.alternate ∷ h.coverage ∷ h.confidence ∷ length m.segments ∷ []) ++ segments_bits l m.segments ++ rest in
    let apart : card_bits l m ++ rest ≡ field_bits (4 ∷ []) (l.number ∷ []) ++ more = simp (append_assoc, append-nil) in
    ap number_on apart ∙ ap (λ (fields : List ℕ). get_or fields 0 0) (fields_read {widths = 4 ∷ []} more (and_fits fits none_left))

-- ---- the card, whatever stands behind it
module _ (l : Layout) (m : Meaning) (layout : LayoutFits l) (fits : CardFits l m) (rest : List ℕ) where
  abbrev h : Header
  h = m.header

  abbrev ss : List Segment
  ss = m.segments

  abbrev bits : List ℕ
  bits = card_bits l m ++ rest

  header-fields : fields_of (header_widths l) bits ≡ l.number ∷ h.key ∷ h.dsp ∷ h.alternate ∷ h.coverage ∷ h.confidence ∷ length ss ∷ []
  header-fields =
      let f = fits.header in
      ap (fields_of (header_widths l)) (append_assoc (header_bits l h (length ss)) (segments_bits l ss) rest)
      ∙ fields_read {widths = header_widths l} (segments_bits l ss ++ rest)
      (and_fits layout.number (and_fits f.key (and_fits f.dsp (and_fits f.alternate (and_fits f.coverage (and_fits f.confidence (and_fits f.count none_left)))))))

  field_is : (i : ℕ) → header_field l bits i ≡ get_or (l.number ∷ h.key ∷ h.dsp ∷ h.alternate ∷ h.coverage ∷ h.confidence ∷ length ss ∷ []) i 0
  field_is i = ap (λ (fields : List ℕ). get_or fields i 0) header-fields

  header_read : header_on l bits ≡ h
  unfolding header_on
  header_read = rw (field_is 1, field_is 2, field_is 3, field_is 4, field_is 5)

  pub count-read : count_on l bits ≡ length ss
  unfolding count_on
  count-read = field_is 6

  -- what stands from segment i on
  behind : (i : ℕ) → i < length ss → drop (segment_place l i) bits ≡ segment_bits l (card_segment ss i) ++ (segments_bits l (drop (suc i) ss) ++ rest)
  unfolding segments_bits
  behind i less =
      let header = header_bits l h (length ss) in
      let passed = segments_bits l (take i ss) in
      let here = segment_bits l (card_segment ss i) in
      let later = segments_bits l (drop (suc i) ss) in
      let split : segments_bits l ss ≡ passed ++ (here ++ later) =
      ap (segments_bits l) (sym (take-append-drop i ss) ∙ ap (λ (xs : List Segment). take i ss ++ xs) (drop-cons ss i _ less)) ∙ segments-append l (take i ss) (card_segment ss i ∷ drop (suc i) ss) in
      let apart : bits ≡ (header ++ passed) ++ (here ++ (later ++ rest)) = ap (λ (xs : List ℕ). header ++ xs ++ rest) split ∙ simp append_assoc in
      let count : length (take i ss) ≡ i = length-take-le i ss (omega (arith, less)) in
      let size : length (header ++ passed) ≡ segment_place l i = length-append header passed ∙ rw (length-header l h (length ss), length-segments l (take i ss), count) in
      ap (drop (segment_place l i)) apart ∙ drop_at (header ++ passed) (here ++ (later ++ rest)) (segment_place l i) size

  segment-read : (i : ℕ) → i < length ss → segment_on l bits i ≡ card_segment ss i
  unfolding segment_on
  segment-read i less =
      let s = card_segment ss i in
      let f = fits.segment i less in
      let fields = ap (fields_of (segment_widths l)) (behind i less) ∙ fields_read (segments_bits l (drop (suc i) ss) ++ rest) (and_fits f.end (and_fits f.key (and_fits f.confidence none_left))) in
      let field_is : (k : ℕ) → segment_field l bits i k ≡ get_or (s.end ∷ s.key ∷ s.confidence ∷ []) k 0 = λ k. ap (λ (numbers : List ℕ). get_or numbers k 0) fields in
      rw (field_is 0, field_is 1, field_is 2)

  pub meaning-read : meaning_on l bits ≡ m
  meaning-read =
      let segments : list (segment_on l bits) (count_on l bits) ≡ ss = ap (list (segment_on l bits)) count-read ∙ list_same (segment_on l bits) (card_segment ss) (length ss) segment-read ∙ list-own ss _ in
      ap₂ (λ (x : Header) (xs : List Segment). record { header = x; segments = xs }) header_read segments

-- ---- behind the last segment
-- zero bits spell 0
zeros : (n : ℕ) → number_of (replicate n 0) ≡ 0
zeros n = ap number_of (sym (bits-zero n)) ∙ number-bits n 0 ∙ zero-mod (2 ^ n)

-- no bit of the filler is set
pub filler-clear : (l : Layout) (m : Meaning) → LayoutFits l → CardFits l m → filler_set l (bits_of_bytes (card_bytes l m)) ≡ false
unfolding filler_set
filler-clear l m layout fits =
    let count = bytes_for (length (card_bits l m)) * 8 - length (card_bits l m) in
    let rest : List ℕ = replicate count 0 in
    let past : drop (segment_place l (length m.segments)) (card_bits l m ++ rest) ≡ rest = drop_at (card_bits l m) rest (segment_place l (length m.segments)) (length-card-bits l m) in
    ap (filler_set l) (card-bits l m)
    ∙ ap (λ (n : ℕ). not (eqb (number_of (drop (segment_place l n) (card_bits l m ++ rest))) 0)) (count-read l m layout fits rest)
    ∙ ap (λ (bits : List ℕ). not (eqb (number_of bits) 0)) past
    ∙ ap (λ (n : ℕ). not (eqb n 0)) (zeros count)
