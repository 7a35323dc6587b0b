-- How long a card and its parts are.
use mathlib.Core.Path.{◌≡◌, refl, sym, ap, ◌∙◌, subst}
use mathlib.Core.List.{List, [], ◌∷◌, ◌++◌, append_assoc, append-nil}
use Prim.Native.Nat.{ℕ, ◌+◌, ◌*◌, ◌≤◌, ◌<◌}
use native.Mathlib.Nat.{suc-mul, mul-le-mul_right}
use native.Mathlib.Numerals.{add-one}
use native.Mathlib.Omega.{arith}
use lib.ListN.{length, length-append}
use Rattle.laws.specs.Front.{list}
use Rattle.bits.specs.Bits.{bytes_for, with_filler}
use Rattle.card.specs.Layout.{Meaning}
use Rattle.card.specs.declared.layout.Layout.{Layout}
use Rattle.card.specs.declared.layout.Header.{Header}
use Rattle.card.specs.declared.layout.Segment.{Segment}
use Rattle.card_form.specs.Form.{header_bits, header_width, segment_bits, segment_width, segments_bits, segment_place, card_bits, card_bytes, card_size}
use Rattle.bits.proofs.Digits.{length-bits, length_cut}

-- ---- how many bits
pub length-header : (l : Layout) (h : Header) (count : ℕ) → length (header_bits l h count) ≡ header_width l
length-header l h count = simp (length-append, length-bits) (omega arith)

pub length-segment : (l : Layout) (s : Segment) → length (segment_bits l s) ≡ segment_width l
length-segment l s = simp (length-append, length-bits) (omega arith)

pub length-segments : (l : Layout) (ss : List Segment) → length (segments_bits l ss) ≡ length ss * segment_width l
unfolding segments_bits
length-segments l [] = omega arith
length-segments l (s ∷ ss) =
    length-append (segment_bits l s) (segments_bits l ss)
    ∙ rw (length-segment l s, length-segments l ss, suc-mul (length ss) (segment_width l)) (omega arith)

pub length-card-bits : (l : Layout) (m : Meaning) → length (card_bits l m) ≡ segment_place l (length m.segments)
length-card-bits l m = length-append (header_bits l m.header (length m.segments)) (segments_bits l m.segments) ∙ rw (length-header l m.header (length m.segments), length-segments l m.segments)

-- a card is as long as its size says
pub length-card : (l : Layout) (m : Meaning) → length (card_bytes l m) ≡ card_size l (length m.segments)
unfolding card_bytes
length-card l m = length_cut _ (with_filler (card_bits l m)) ∙ ap bytes_for (length-card-bits l m)

-- ---- the segments, one by one
pub segments-append : (l : Layout) (xs ys : List Segment) → segments_bits l (xs ++ ys) ≡ segments_bits l xs ++ segments_bits l ys
unfolding segments_bits
segments-append l [] ys = refl
segments-append l (x ∷ xs) ys = ap (λ (bits : List ℕ). segment_bits l x ++ bits) (segments-append l xs ys) ∙ sym (append_assoc (segment_bits l x) (segments_bits l xs) (segments_bits l ys))

-- one segment more
pub one_more : (l : Layout) (at : ℕ → Segment) (i : ℕ) → segments_bits l (list at (i + 1)) ≡ segments_bits l (list at i) ++ segment_bits l (at i)
unfolding segments_bits list
one_more l at i = ap (λ (n : ℕ). segments_bits l (list at n)) (add-one i) ∙ rw (segments-append l (list at i) (at i ∷ []), append-nil (segment_bits l (at i)))

-- before the last of equal steps there is room for one more
pub one-more-fits : (i count width : ℕ) → i < count → i * width + width ≤ count * width
one-more-fits i count width h = subst (λ (n : ℕ). n ≤ count * width) (suc-mul i width) (mul-le-mul_right width h)
