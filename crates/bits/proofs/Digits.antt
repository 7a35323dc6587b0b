-- Laws of bits and bytes.
use mathlib.Core.Path.{◌≡◌, refl, sym, ap, ap₂, ◌∙◌}
use mathlib.Core.List.{List, [], ◌∷◌, ◌++◌, append_assoc, append-nil}
use Prim.Native.Nat.{ℕ, zero, suc, ◌+◌, ◌*◌, ◌/◌, ◌%◌, ◌^◌, ◌≤◌, ◌<◌}
use native.Mathlib.Nat.{zero-add, suc-add, add_comm, mod-one, mod-eq_of_lt, lt_of_lt_of_le, le_of_lt, mul-le-mul}
use native.Mathlib.Numerals.{add-one, one-add}
use native.Mathlib.Omega.{arith}
use lib.ListN.{length, take, drop, set, length-append}
use lib.Seq.{take_at, drop_at, take-suc-set}
use lib.Arith.{digits_lt}
use lib.Pow.{pow-add, pow_mono, shl_lt, shr-shr, field, mod-mod-pow, mod-pow-add, high, low}
use Rattle.bits.specs.Bits.{AllBytes, bits_of, number_of, bits_of_bytes, bytes_cut}
use Rattle.bits.specs.Bits.{HasBits}

pub length-bits : (w v : ℕ) → length (bits_of w v) ≡ w
unfolding bits_of
length-bits zero v = refl
length-bits (suc w) v = ap suc (length-bits w v)

-- the high bits of a number, then its low ones
pub bits-split : (a b v : ℕ) → bits_of (a + b) v ≡ bits_of a (v / 2 ^ b) ++ bits_of b v
unfolding bits_of
bits-split zero b v = rw zero-add
bits-split (suc a) b v =
    rw suc-add
    (ap₂ (λ (x : ℕ) (xs : List ℕ). x % 2 ∷ xs)
    (ap (λ (e : ℕ). v / 2 ^ e) (add_comm a b) ∙ sym (shr-shr v b a))
    (bits-split a b v))

-- bits above the width don't matter
pub bits-low : (j b v : ℕ) → bits_of b (v % 2 ^ (j + b)) ≡ bits_of b v
unfolding bits_of
bits-low j zero v = refl
bits-low j (suc b) v =
    let same : j + suc b ≡ (j + 1) + b = omega arith in
    rw same
    (ap₂ (λ (x : ℕ) (xs : List ℕ). x ∷ xs)
    (ap (λ (x : ℕ). x % 2) (field v (j + 1) b) ∙ mod-mod-pow (v / 2 ^ b) j 1)
    (bits-low (j + 1) b v))

pub bits-mod : (b v : ℕ) → bits_of b (v % 2 ^ b) ≡ bits_of b v
bits-mod b v = rw zero-add at (bits-low 0 b v)

-- one number put before another is its bits before the other's
pub bits-join : (a b x y : ℕ) → y < 2 ^ b → bits_of (a + b) (x * 2 ^ b + y) ≡ bits_of a x ++ bits_of b y
bits-join a b x y h =
    bits-split a b (x * 2 ^ b + y)
    ∙ ap₂ (λ (p q : List ℕ). p ++ q)
    (ap (bits_of a) (high x b h))
    (sym (bits-mod b (x * 2 ^ b + y)) ∙ ap (bits_of b) (low x b h))

pub number-bits : (w v : ℕ) → number_of (bits_of w v) ≡ v % 2 ^ w
unfolding bits_of number_of
number-bits zero v = sym (mod-one v)
number-bits (suc w) v =
    rw (length-bits w v, number-bits w v)
    (sym (mod-pow-add v 1 w) ∙ ap (λ (e : ℕ). v % 2 ^ e) (one-add w))

pub bytes-append : (xs ys : List ℕ) → bits_of_bytes (xs ++ ys) ≡ bits_of_bytes xs ++ bits_of_bytes ys
unfolding bits_of_bytes
bytes-append [] ys = refl
bytes-append (x ∷ xs) ys = ap (λ (l : List ℕ). bits_of 8 x ++ l) (bytes-append xs ys) ∙ sym (append_assoc (bits_of 8 x) (bits_of_bytes xs) (bits_of_bytes ys))

pub length-bytes : (xs : List ℕ) → length (bits_of_bytes xs) ≡ length xs * 8
unfolding bits_of_bytes
length-bytes [] = refl
length-bytes (x ∷ xs) = rw (length-append (bits_of 8 x) (bits_of_bytes xs), length-bits 8 x, length-bytes xs) (omega arith)

-- bytes are cut from their own bits
pub cut-bytes : (xs : List ℕ) → AllBytes xs → bytes_cut (length xs) (bits_of_bytes xs) ≡ xs
unfolding bits_of_bytes bytes_cut
cut-bytes [] known = refl
cut-bytes (x ∷ xs) known =
    ap₂ (λ (y : ℕ) (ys : List ℕ). y ∷ ys)
    (ap number_of (take_at (bits_of 8 x) (bits_of_bytes xs) 8 (length-bits 8 x)) ∙ number-bits 8 x ∙ mod-eq_of_lt (known 0))
    (ap (bytes_cut (length xs)) (drop_at (bits_of 8 x) (bits_of_bytes xs) 8 (length-bits 8 x)) ∙ cut-bytes xs (λ i. known (suc i)))

pub length_cut : (n : ℕ) (bits : List ℕ) → length (bytes_cut n bits) ≡ n
unfolding bytes_cut
length_cut zero bits = refl
length_cut (suc n) bits = ap suc (length_cut n (drop 8 bits))

-- a number's high eight bits become the next byte, and its low ones wait: what stands is the same
pub drained : (bytes : List ℕ) (at count n : ℕ) → at < length bytes →
    bits_of_bytes (take (at + 1) (set bytes at (n / 2 ^ count))) ++ bits_of count (n % 2 ^ count) ≡ bits_of_bytes (take at bytes) ++ bits_of (8 + count) n
unfolding bits_of_bytes
drained bytes at count n h =
    rw (add-one at, take-suc-set bytes at (n / 2 ^ count) h, bytes-append, append-nil, append_assoc, bits-mod count n, bits-split 8 count n)

-- a number put after one that spells bits spells those bits and its own
pub bits-joined : {a x r y : ℕ} {xs : List ℕ} (b : ℕ) → HasBits a x xs → y < 2 ^ b → r ≡ x * 2 ^ b + y → HasBits (a + b) r (xs ++ bits_of b y)
bits-joined {a} {x} {r} {y} {xs} b s h e =
    record {
      fits = rw (e, pow-add 2 a b) (digits_lt s.fits h);
      same = rw (e, bits-join a b x y h, s.same);
    }

-- a number spells its own bits
pub bits-own : (a : ℕ) {x : ℕ} → x < 2 ^ a → HasBits a x (bits_of a x)
bits-own a h = record { fits = h; same = refl }

-- a number of `a` bits and `b` bits after it fit 64
pub shift_fits : (a b : ℕ) {x : ℕ} → x < 2 ^ a → a + b ≤ 64 → x * 2 ^ b < 2 ^ 64
shift_fits a b h room = lt_of_lt_of_le (shl_lt a b h) (pow_mono {j = 64} room)

-- the bits of fewer than 2^32 segments are few
pub few_bits : (count width : ℕ) → count < 2 ^ 32 → width ≤ 41 → count * (width + 5 + 10) ≤ 2 ^ 32 * 56
few_bits count width h narrow = mul-le-mul {m₂ = 56} (le_of_lt h) (omega arith)
