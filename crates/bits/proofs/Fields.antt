-- Laws of fields: what stands between two lists of bits is read back, and what is read stood there.
use mathlib.Core.Path.{◌≡◌, refl, sym, ap, ap₂, ◌∙◌}
use mathlib.Core.List.{List, [], ◌∷◌, ◌++◌, append_assoc, append-nil}
use Prim.Native.Nat.{ℕ, ◌+◌, ◌-◌, ◌*◌, ◌/◌, ◌%◌, ◌^◌, ◌≤◌, ◌<◌}
use native.Mathlib.Nat.{mod-eq_of_lt}
use native.Mathlib.Numerals.{add-one}
use native.Mathlib.Omega.{arith}
use lib.ListN.{length, take, drop, get_or, length-append, length-drop, take-append-drop}
use lib.Seq.{take_at, drop_at, take_all, take-suc, take-add, length-take-le}
use Rattle.bits.specs.Bits.{bits_of, number_of, bits_of_bytes, field_bits, field_at, fields_of, HasBits}
use Rattle.bits.proofs.Digits.{length-bits, length-bytes, bits-split, number-bits, bytes-append, bits-joined}
use Rattle.bits.proofs.Binary.{Binary, binary-take, binary-drop, spelled}

-- a number's bits, read where they stand
field-middle : (xs ys : List ℕ) (at width v : ℕ) → length xs ≡ at → field_at (xs ++ bits_of width v ++ ys) at width ≡ v % 2 ^ width
field-middle xs ys at width v size =
    ap (λ (bits : List ℕ). number_of (take width bits)) (ap (drop at) (append_assoc xs (bits_of width v) ys) ∙ drop_at xs (bits_of width v ++ ys) at size)
    ∙ ap number_of (take_at (bits_of width v) ys width (length-bits width v))
    ∙ number-bits width v

-- ---- the first k bytes from `first` on, as a reader sees them
abbrev pub window : List ℕ → ℕ → ℕ → List ℕ
window bytes first k = bits_of_bytes (take k (drop first bytes))

-- so many bytes lent from there on
pub window-lent : (bytes : List ℕ) (first k n : ℕ) → first + k ≤ length bytes → HasBits (length (take (first + k - first) (drop first bytes)) * 8) n (bits_of_bytes (take (first + k - first) (drop first bytes))) → HasBits (k * 8) n (window bytes first k)
window-lent bytes first k n inside has =
    let count : first + k - first ≡ k = omega arith in
    let long : length (take k (drop first bytes)) ≡ k = length-take-le k (drop first bytes) (rw length-drop (omega arith)) in
    rw (count, long) at has

-- one byte more of a list
pub byte_more : (bytes : List ℕ) (k n r : ℕ) → k < length bytes → HasBits (k * 8) n (bits_of_bytes (take k bytes)) → get_or bytes k 0 < 2 ^ 8 →
    r ≡ n * 2 ^ 8 + get_or bytes k 0 → HasBits ((k + 1) * 8) r (bits_of_bytes (take (k + 1) bytes))
unfolding bits_of_bytes
byte_more bytes k n r inside has byte e =
    let wider : k * 8 + 8 ≡ (k + 1) * 8 = omega arith in
    let longer : bits_of_bytes (take k bytes) ++ bits_of 8 (get_or bytes k 0) ≡ bits_of_bytes (take (k + 1) bytes) =
    rw (add-one k, take-suc bytes k 0 inside, bytes-append, append-nil) in
    rw (← wider, ← longer) (bits-joined 8 has byte e)

-- all of them
pub bytes_all : (bytes : List ℕ) (k n : ℕ) → k ≡ length bytes → HasBits (k * 8) n (bits_of_bytes (take k bytes)) → HasBits (length bytes * 8) n (bits_of_bytes bytes)
bytes_all bytes k n all has = rw (all, take_all (length bytes) bytes (omega arith)) at has

-- a field of the window is a field of the whole
module _ (bytes : List ℕ) (first k n at width past : ℕ) (has : HasBits (k * 8) n (window bytes first k)) (ends : at + width + past ≡ (first + k) * 8) (after : first * 8 ≤ at) where
  -- the bits before the field, and those behind it
  abbrev front : List ℕ
  front = bits_of_bytes (take first bytes) ++ bits_of (at - first * 8) (n / 2 ^ (width + past))

  abbrev back : List ℕ
  back = bits_of past n ++ bits_of_bytes (drop k (drop first bytes))

  window-parts : window bytes first k ≡ bits_of (at - first * 8) (n / 2 ^ (width + past)) ++ (bits_of width (n / 2 ^ past) ++ bits_of past n)
  window-parts =
      let all : k * 8 ≡ at - first * 8 + (width + past) = omega arith in
      sym has.same ∙ ap (λ (w : ℕ). bits_of w n) all ∙ bits-split (at - first * 8) (width + past) n
      ∙ ap (λ (bits : List ℕ). bits_of (at - first * 8) (n / 2 ^ (width + past)) ++ bits) (bits-split width past n)

  parts : bits_of_bytes bytes ≡ front ++ bits_of width (n / 2 ^ past) ++ back
  parts =
      ap bits_of_bytes (sym (take-append-drop first bytes)) ∙ bytes-append (take first bytes) (drop first bytes)
      ∙ ap (λ (bits : List ℕ). bits_of_bytes (take first bytes) ++ bits)
      (ap bits_of_bytes (sym (take-append-drop k (drop first bytes))) ∙ bytes-append (take k (drop first bytes)) (drop k (drop first bytes))
      ∙ ap (λ (bits : List ℕ). bits ++ bits_of_bytes (drop k (drop first bytes))) window-parts)
      ∙ simp append_assoc

  front_length : first ≤ length bytes → length front ≡ at
  front_length inside = rw (length-append, length-bytes, length-bits, length-take-le first bytes inside) (omega arith)

  pub window-field : first ≤ length bytes → n / 2 ^ past % 2 ^ width ≡ field_at (bits_of_bytes bytes) at width
  window-field inside =
      sym (ap (λ (bits : List ℕ). field_at bits at width) parts ∙ field-middle front back at width (n / 2 ^ past) (front_length inside))

-- ---- fields one behind the other
-- how many bits widths have together
abbrev pub total : List ℕ → ℕ
total [] = 0
total (width ∷ widths) = width + total widths

-- each number fits its width, and there are as many
pub data AllFit : List ℕ → List ℕ → Type 0 where
  none_left : AllFit [] []
  and_fits : {width number : ℕ} {widths numbers : List ℕ} → number < 2 ^ width → AllFit widths numbers → AllFit (width ∷ widths) (number ∷ numbers)

pub length_fields : {widths numbers : List ℕ} → AllFit widths numbers → length (field_bits widths numbers) ≡ total widths
length_fields none_left = refl
length_fields {widths = w ∷ ws} {numbers = n ∷ ns} (and_fits fits rest) = length-append (bits_of w n) (field_bits ws ns) ∙ ap₂ (λ (a b : ℕ). a + b) (length-bits w n) (length_fields rest)

-- what was put is read, whatever stands behind it
pub fields_read : {widths numbers : List ℕ} (rest : List ℕ) → AllFit widths numbers → fields_of widths (field_bits widths numbers ++ rest) ≡ numbers
fields_read rest none_left = refl
fields_read {widths = w ∷ ws} {numbers = n ∷ ns} rest (and_fits fits more) =
    let apart : bits_of w n ++ field_bits ws ns ++ rest ≡ bits_of w n ++ (field_bits ws ns ++ rest) = append_assoc (bits_of w n) (field_bits ws ns) rest in
    rw apart
    (ap₂ (λ (x : ℕ) (xs : List ℕ). x ∷ xs)
    (ap number_of (take_at (bits_of w n) (field_bits ws ns ++ rest) w (length-bits w n)) ∙ number-bits w n ∙ mod-eq_of_lt fits)
    (ap (fields_of ws) (drop_at (bits_of w n) (field_bits ws ns ++ rest) w (length-bits w n)) ∙ fields_read rest more))

-- a front of bits is the bits of the number that it spells
front-bits : (bits : List ℕ) (width : ℕ) → Binary bits → width ≤ length bits → HasBits width (field_at bits 0 width) (take width bits)
front-bits bits width b inside = let size : length (take width bits) ≡ width = length-take-le width bits inside in rw size at (spelled (take width bits) (binary-take width b))

-- what is read stood there
pub fields-again : (widths bits : List ℕ) → Binary bits → total widths ≤ length bits → field_bits widths (fields_of widths bits) ≡ take (total widths) bits
fields-again [] bits b inside = refl
fields-again (w ∷ ws) bits b inside =
    let left : total ws ≤ length (drop w bits) = rw (length-drop w bits) (omega arith) in
    ap₂ (λ (xs ys : List ℕ). xs ++ ys) (front-bits bits w b (omega arith)).same (fields-again ws (drop w bits) (binary-drop w b) left)
    ∙ sym (take-add w (total ws) bits)

-- and fits
pub fields_fit : (widths bits : List ℕ) → Binary bits → total widths ≤ length bits → AllFit widths (fields_of widths bits)
fields_fit [] bits b inside = none_left
fields_fit (w ∷ ws) bits b inside =
    let left : total ws ≤ length (drop w bits) = rw (length-drop w bits) (omega arith) in
    and_fits (front-bits bits w b (omega arith)).fits (fields_fit ws (drop w bits) (binary-drop w b) left)

-- ---- a number taken apart
-- the fields of a number that has so many bits
abbrev pub fields_in : List ℕ → ℕ → List ℕ
fields_in [] number = []
fields_in (width ∷ widths) number = number / 2 ^ total widths % 2 ^ width ∷ fields_in widths number

apart-fields : (widths rest : List ℕ) (number : ℕ) → fields_of widths (bits_of (total widths) number ++ rest) ≡ fields_in widths number
apart-fields [] rest number = refl
apart-fields (w ∷ ws) rest number =
    let high = bits_of w (number / 2 ^ total ws) in
    let low = bits_of (total ws) number in
    let split : bits_of (w + total ws) number ++ rest ≡ high ++ (low ++ rest) = ap (λ (bits : List ℕ). bits ++ rest) (bits-split w (total ws) number) ∙ append_assoc high low rest in
    rw split
    (ap₂ (λ (x : ℕ) (xs : List ℕ). x ∷ xs)
    (ap number_of (take_at high (low ++ rest) w (length-bits w (number / 2 ^ total ws))) ∙ number-bits w (number / 2 ^ total ws))
    (ap (fields_of ws) (drop_at high (low ++ rest) w (length-bits w (number / 2 ^ total ws))) ∙ apart-fields ws rest number))

-- a number that was read as one field, taken apart, is its fields
pub fields-of-number : (widths bits : List ℕ) (number : ℕ) → Binary bits → total widths ≤ length bits → number ≡ field_at bits 0 (total widths) → fields_of widths bits ≡ fields_in widths number
fields-of-number widths bits number b inside e =
    let front : take (total widths) bits ≡ bits_of (total widths) number = sym (front-bits bits (total widths) b inside).same ∙ ap (bits_of (total widths)) (sym e) in
    ap (fields_of widths) (sym (take-append-drop (total widths) bits) ∙ ap (λ (xs : List ℕ). xs ++ drop (total widths) bits) front)
    ∙ apart-fields widths (drop (total widths) bits) number
