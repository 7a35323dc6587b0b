-- Lists of zeros and ones: the bytes that are cut from them have them as their bits.
use mathlib.Core.Path.{◌≡◌, refl, sym, ap, ap₂, ◌∙◌, subst}
use mathlib.Core.List.{List, [], ◌∷◌, ◌++◌}
use Prim.Native.Nat.{ℕ, zero, suc, ◌+◌, ◌-◌, ◌*◌, ◌/◌, ◌%◌, ◌^◌, ◌<◌}
use native.Mathlib.Nat.{mod-eq_of_lt, mod-lt, div-one}
use native.Mathlib.Numerals.{one-add}
use native.Mathlib.Omega.{arith}
use lib.Dec.{lit<}
use lib.ListN.{length, take, drop, get_or, replicate, length-append, length-drop, length-replicate, take-append-drop}
use lib.Seq.{get_or-drop, length-take-le}
use Rattle.bits.specs.Bits.{bits_of, number_of, bits_of_bytes, bytes_cut, bytes_for, with_filler, bytes_of, HasBits}
use Rattle.bits.proofs.Digits.{bits-joined, bits-own}
use Rattle.bits.proofs.Puts.{bits-zero}

-- every element is 0 or 1
pub record Binary (bits : List ℕ) : Type 0 where
  pub bit : (i : ℕ) → get_or bits i 0 < 2

pub binary-none : Binary []
binary-none = record { bit = λ i. lit< tt }

binary-cons : {x : ℕ} {bits : List ℕ} → x < 2 → Binary bits → Binary (x ∷ bits)
binary-cons {x} {bits} h b = record { bit = λ i. cons-bit i }
  where
    cons-bit : (i : ℕ) → get_or (x ∷ bits) i 0 < 2
    cons-bit zero = h
    cons-bit (suc i) = b.bit i

binary-tail : {x : ℕ} {bits : List ℕ} → Binary (x ∷ bits) → Binary bits
binary-tail b = record { bit = λ i. b.bit (suc i) }

pub binary-append : {xs ys : List ℕ} → Binary xs → Binary ys → Binary (xs ++ ys)
binary-append {xs = []} bx by = by
binary-append {xs = x ∷ xs} bx by = binary-cons (bx.bit 0) (binary-append (binary-tail bx) by)

pub binary-bits : (w v : ℕ) → Binary (bits_of w v)
unfolding bits_of
binary-bits zero v = binary-none
binary-bits (suc w) v = binary-cons (mod-lt (v / 2 ^ w) (lit< tt)) (binary-bits w v)

pub binary-bytes : (bytes : List ℕ) → Binary (bits_of_bytes bytes)
unfolding bits_of_bytes
binary-bytes [] = binary-none
binary-bytes (b ∷ bytes) = binary-append (binary-bits 8 b) (binary-bytes bytes)

pub binary-take : (n : ℕ) {bits : List ℕ} → Binary bits → Binary (take n bits)
binary-take zero b = binary-none
binary-take (suc n) {bits = []} b = binary-none
binary-take (suc n) {bits = x ∷ bits} b = binary-cons (b.bit 0) (binary-take n (binary-tail b))

pub binary-drop : (n : ℕ) {bits : List ℕ} → Binary bits → Binary (drop n bits)
binary-drop n {bits} b = record { bit = λ i. rw (get_or-drop n bits i 0) (b.bit (n + i)) }

-- bits are those of the number that they spell
pub spelled : (bits : List ℕ) → Binary bits → HasBits (length bits) (number_of bits) bits
unfolding number_of bits_of
spelled [] b = record { fits = lit< tt; same = refl }
spelled (x ∷ bits) b =
    let rest = spelled bits (binary-tail b) in
    let whole = bits-joined (length bits) (bits-own 1 (b.bit 0)) rest.fits refl in
    let first : x / 1 % 2 ≡ x = ap (λ (q : ℕ). q % 2) (div-one x) ∙ mod-eq_of_lt (b.bit 0) in
    record { fits = rw one-add at whole.fits; same = ap (λ (w : ℕ). bits_of w (number_of (x ∷ bits))) (sym (one-add (length bits))) ∙ whole.same ∙ ap₂ (λ (y : ℕ) (ys : List ℕ). y ∷ ys) first rest.same }

bits-cut : (n : ℕ) (bits : List ℕ) → Binary bits → length bits ≡ n * 8 → bits_of_bytes (bytes_cut n bits) ≡ bits
unfolding bits_of_bytes bytes_cut
bits-cut zero [] b size = refl
bits-cut zero (x ∷ bits) b size = absurd (omega arith)
bits-cut (suc n) bits b size =
    let eight : length (take 8 bits) ≡ 8 = length-take-le 8 bits (omega arith) in
    let less : length (drop 8 bits) ≡ n * 8 = length-drop 8 bits ∙ omega arith in
    ap₂ (λ (p q : List ℕ). p ++ q) (rw eight at (spelled (take 8 bits) (binary-take 8 b)).same) (bits-cut n (drop 8 bits) (binary-drop 8 b) less)
    ∙ take-append-drop 8 bits

-- the bytes of bits have those bits and their filler
pub bits_of_bytes_lem : (bits : List ℕ) → Binary bits → bits_of_bytes (bytes_of bits) ≡ with_filler bits
bits_of_bytes_lem bits b =
    let rest = bytes_for (length bits) * 8 - length bits in
    let size : length (with_filler bits) ≡ bytes_for (length bits) * 8 = length-append bits (replicate rest 0) ∙ rw (length-replicate {A = ℕ} rest 0) (omega arith) in
    bits-cut (bytes_for (length bits)) (with_filler bits) (binary-append b (subst Binary (bits-zero rest) (binary-bits rest 0))) size
