-- A header's and a segment's fields, from the one number that was read of them.
use mathlib.Core.Path.{◌≡◌, refl, sym, ap, subst, ◌∙◌}
use mathlib.Core.List.{List}
use Prim.Native.Nat.{ℕ, ◌+◌, ◌*◌, ◌/◌, ◌%◌, ◌^◌, ◌≤◌, ◌<◌}
use native.Mathlib.Nat.{mod-lt, lt_of_lt_of_le}
use native.Mathlib.Omega.{arith}
use lib.ListN.{length, drop, get_or, length-drop}
use lib.Pow.{pow_pos, pow_mono}
use Rattle.bits.specs.Bits.{bits_of_bytes, field_at}
use Rattle.bits.proofs.Digits.{length-bytes}
use Rattle.bits.proofs.Binary.{Binary, binary-bytes, binary-drop}
use Rattle.bits.proofs.Fields.{total, fields_in, fields-of-number}
use Rattle.card.specs.declared.layout.Layout.{Layout}
use Rattle.card_form.specs.Form.{header_widths, header_width, header_field, header_on, count_on, segment_widths, segment_width, segment_place, segment_field, segment_on}

-- the field of `width` bits before so many
abbrev part : ℕ → ℕ → ℕ → ℕ
part number behind width = number / 2 ^ behind % 2 ^ width

-- so many, counted otherwise
part_same : (number width : ℕ) {a b : ℕ} → a ≡ b → part number a width ≡ part number b width
part_same number width e = ap (λ (behind : ℕ). part number behind width) e

module _ (l : Layout) (bits : List ℕ) (b : Binary bits) (number : ℕ) where
  -- the header
  module _ (inside : header_width l ≤ length bits) (read : number ≡ field_at bits 0 (header_width l)) where
    header-apart : (i : ℕ) → header_field l bits i ≡ get_or (fields_in (header_widths l) number) i 0
    header-apart i =
        let whole : header_width l ≡ total (header_widths l) = omega arith in
        ap (λ (fields : List ℕ). get_or fields i 0) (fields-of-number (header_widths l) bits number b (rw (← whole) inside) (read ∙ ap (field_at bits 0) whole))

    pub header-parts : record { key = part number (30 + l.count) 5; dsp = part number (25 + l.count) 5; alternate = part number (20 + l.count) 5; coverage = part number (10 + l.count) 10; confidence = part number l.count 10 } ≡ header_on l bits
    unfolding header_on
    header-parts =
        let key = header-apart 1 ∙ part_same number 5 {b = 30 + l.count} (omega arith) in
        let dsp = header-apart 2 ∙ part_same number 5 {b = 25 + l.count} (omega arith) in
        let alternate = header-apart 3 ∙ part_same number 5 {b = 20 + l.count} (omega arith) in
        let coverage = header-apart 4 ∙ part_same number 10 {b = 10 + l.count} (omega arith) in
        let confidence = header-apart 5 ∙ part_same number 10 {b = l.count} (omega arith) in
        sym (rw (key, dsp, alternate, coverage, confidence))

    pub count-part : part number 0 l.count ≡ count_on l bits
    unfolding count_on
    count-part = sym (header-apart 6)

  -- segment i
  module _ (i : ℕ) (inside : segment_place l (i + 1) ≤ length bits) (read : number ≡ field_at bits (segment_place l i) (segment_width l)) where
    segment-apart : (k : ℕ) → segment_field l bits i k ≡ get_or (fields_in (segment_widths l) number) k 0
    segment-apart k =
        let whole : segment_width l ≡ total (segment_widths l) = omega arith in
        let left : total (segment_widths l) ≤ length (drop (segment_place l i) bits) = rw (length-drop (segment_place l i) bits) (omega arith) in
        ap (λ (fields : List ℕ). get_or fields k 0) (fields-of-number (segment_widths l) (drop (segment_place l i) bits) number (binary-drop (segment_place l i) b) left (read ∙ ap (field_at bits (segment_place l i)) whole))

    pub segment-parts : record { end = part number 15 l.end; key = part number 10 5; confidence = part number 0 10 } ≡ segment_on l bits i
    unfolding segment_on
    segment-parts = sym (rw (segment-apart 0, segment-apart 1, segment-apart 2))

-- a part is small
pub part_small : (number behind : ℕ) {width limit : ℕ} → width ≤ limit → part number behind width < 2 ^ limit
part_small number behind {width} h = lt_of_lt_of_le (mod-lt (number / 2 ^ behind) (pow_pos width)) (pow_mono h)

-- the count fits its width
pub count_small : (l : Layout) (bytes : List ℕ) → header_width l ≤ length bytes * 8 → count_on l (bits_of_bytes bytes) < 2 ^ l.count
count_small l bytes inside =
    let bits = bits_of_bytes bytes in
    let number = field_at bits 0 (header_width l) in
    subst (λ (n : ℕ). n < 2 ^ l.count) (count-part l bits (binary-bytes bytes) number (rw (length-bytes bytes) inside) refl) (part_small number 0 {limit = l.count} (omega arith))
