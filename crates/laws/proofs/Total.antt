-- Patterns of values with the sign plus are in the values' order, so total_order is the order of the keys, and a total order of the values that a format holds.
use mathlib.Core.Path.{◌≡◌, refl, sym, ap, ◌∙◌, subst, subst₂}
use mathlib.Core.Logic.{◌⊎◌, inl, inr, ◌↔◌}
use Prim.Native.Nat.{ℕ, ◌+◌, ◌-◌, ◌*◌, ◌^◌, ◌≤◌, ◌<◌}
use native.Mathlib.Nat.{le_refl, le_antisymm, le_trans, le_of_eq, le_of_lt, lt_of_lt_of_le, lt_of_le_of_lt, not-le_of_lt, lt_irrefl, mul_right_comm, mul-le-mul_right, mul_comm, mul-lt-mul_of_pos_right, div-lt_iff_lt-mul, zero-add}
use native.Mathlib.Omega.{arith}
use mathlib.Core.Bool.{Bool, true, false, not, ◌||◌, cond}
use lib.IntN.{ℤ}
use lib.Dec.{T, ltb, leb, not_T, leb→le, le→leb, ltb→lt, lt→ltb, lit<}
use lib.Arith.{lt_of_le-ne}
use lib.Pow.{pow_pos, pow-add}
use lib.Ieee.{Float, nan, inf, fin, Format, binary32, binary64, low, ones, hid, top, fits, is_nan, le, lt, to_bits}
use lib.Ieee.Bits.{is_true, is_false}
use lib.Ieee.Nearest.{div_mono}
use lib.Ieee.Positive.{num, den, den_pos}
use borrow.Author.Tests.{lt-ltb, le-ltb, le-leb, lt-leb}
use Rattle.laws.specs.Values.{negative, magnitude_of, clear, Held}
use Rattle.laws.specs.Order.{total_order, order_key, TotalOrder}
use Rattle.laws.proofs.Cases.{lt-or-ge, same_test}
use Rattle.laws.proofs.Signs.{kind, ordered-is, clear-is, negative-is, magnitude-clear, magnitude-fits, minus-bits}
use Rattle.laws.proofs.Patterns.{pattern-mono, pattern_lt, known-by-bits}
use Rattle.laws.proofs.Order.{le_refl as order-refl, lt→le, lt_not_le, not-le→lt, le→not-lt, le_left, le_right}
use Rattle.laws.proofs.Nonneg.{nonneg→ordered, le→cross}
use Rattle.laws.proofs.Held.{bits_are, fits-room}

-- ---- the patterns of held values are in the values' order
pub bits_mono : (f : Format) (x y : Float) → Held f x → Held f y → T (le x y) → to_bits f x ≤ to_bits f y
bits_mono f x y p q h =
    let l = 2 ^ low f in
    subst₂ (λ (a b : ℕ). a ≤ b) (sym (bits_are f x p.at_least_zero)) (sym (bits_are f y q.at_least_zero))
    (pattern-mono f _ _
    (div_mono (num x * l) (den x) (num y * l) (den y) (den_pos x) (den_pos y)
    (le_trans (le_of_eq (mul_right_comm (num x) l (den y))) (le_trans (mul-le-mul_right l (le→cross x y p.at_least_zero q.at_least_zero h)) (le_of_eq (mul_right_comm (num y) (den x) l))))))

pub bits-order : (f : Format) (x y : Float) → Held f x → Held f y → T (lt x y) ↔ (to_bits f x < to_bits f y)
bits-order f x y p q = (forth, back)
  where
    self : T (le x x)
    self = order-refl x (nonneg→ordered x p.at_least_zero)

    forth : T (lt x y) → to_bits f x < to_bits f y
    forth h =
        lt_of_le-ne (bits_mono f x y p q (lt→le x y h))
        (λ e. lt_not_le x y h (subst (λ (z : Float). T (le z x)) (known-by-bits f x y p.in_format q.in_format e) self))

    back : to_bits f x < to_bits f y → T (lt x y)
    back h = not-le→lt x y (nonneg→ordered x p.at_least_zero) (nonneg→ordered y q.at_least_zero) (not_T (le y x) (λ (k : T (le y x)). not-le_of_lt h (bits_mono f y x q p k)))

-- ---- the same with the infinity, whose pattern is above every other
pub held-lt : (f : Format) (x : Float) → Held f x → to_bits f x < ones f * hid f
held-lt f x h =
    subst (λ (n : ℕ). n < ones f * hid f) (sym (bits_are f x h.at_least_zero))
    (pattern_lt f _
    ((div-lt_iff_lt-mul (den_pos x)).1
    (lt_of_lt_of_le (mul-lt-mul_of_pos_right (fits-room f x h.at_least_zero h.in_format) (pow_pos (low f)))
    (le_of_eq (mul_right_comm _ (den x) (2 ^ low f) ∙ ap (λ (z : ℕ). z * den x) (mul_comm _ (2 ^ low f) ∙ sym (pow-add 2 (low f) _)))))))

infinity-bits : (f : Format) → to_bits f (inf false) ≡ ones f * hid f
unfolding to_bits
infinity-bits f = zero-add (ones f * hid f)

holds : {f : Format} {m : ℕ} {e : ℤ} → T (fits f (fin false m e)) → Held f (fin false m e)
holds h = record { in_format = h; at_least_zero = tt }

lt-clear : (f : Format) (x y : Float) → T (clear x) → T (clear y) → T (fits f x) → T (fits f y) → lt x y ≡ ltb (to_bits f x) (to_bits f y)
unfolding lt
lt-clear f nan y a b h k = absurd a
lt-clear f (inf true) y a b h k = absurd a
lt-clear f (inf false) nan a b h k = absurd b
lt-clear f (inf false) (inf true) a b h k = absurd b
lt-clear f (inf false) (inf false) a b h k = sym (le-ltb (to_bits f (inf false)) (to_bits f (inf false)) (le_refl (to_bits f (inf false))))
lt-clear f (inf false) (fin true n d) a b h k = absurd b
lt-clear f (inf false) (fin false n d) a b h k =
    sym (ap (λ (i : ℕ). ltb i (to_bits f (fin false n d))) (infinity-bits f) ∙ le-ltb (ones f * hid f) (to_bits f (fin false n d)) (le_of_lt (held-lt f (fin false n d) (holds k))))
lt-clear f (fin true m e) y a b h k = absurd a
lt-clear f (fin false m e) nan a b h k = absurd b
lt-clear f (fin false m e) (inf true) a b h k = absurd b
lt-clear f (fin false m e) (inf false) a b h k =
    sym (ap (ltb (to_bits f (fin false m e))) (infinity-bits f) ∙ lt-ltb (to_bits f (fin false m e)) (ones f * hid f) (held-lt f (fin false m e) (holds h)))
lt-clear f (fin false m e) (fin true n d) a b h k = absurd b
lt-clear f (fin false m e) (fin false n d) a b h k =
    let x = fin false m e in
    let y = fin false n d in
    let iff = bits-order f x y (holds h) (holds k) in
    same_test (lt x y) (ltb (to_bits f x) (to_bits f y)) (λ t. lt→ltb (to_bits f x) (to_bits f y) (iff.0 t)) (λ t. iff.1 (ltb→lt (to_bits f x) (to_bits f y) t))

clear-upto : (f : Format) (x : Float) → T (clear x) → T (fits f x) → to_bits f x ≤ ones f * hid f
clear-upto f nan c h = absurd c
clear-upto f (inf true) c h = absurd c
clear-upto f (inf false) c h = le_of_eq (infinity-bits f)
clear-upto f (fin true m e) c h = absurd c
clear-upto f (fin false m e) c h = le_of_lt (held-lt f (fin false m e) (holds h))

-- with the sign plus a pattern lies below the sign's bit
clear-under : (f : Format) (x : Float) → T (clear x) → T (fits f x) → to_bits f x < top f
clear-under f x c h = lt_of_le_of_lt (clear-upto f x c h) (infinity-under f)
  where
    infinity-under : (g : Format) → ones g * hid g < top g
    infinity-under binary32 = lit< tt
    infinity-under binary64 = lit< tt

-- ---- `lt` where a sign is minus
lt-negative : (x y : Float) → T (negative x) → T (negative y) → lt x y ≡ lt (magnitude_of y) (magnitude_of x)
unfolding lt magnitude_of
lt-negative nan y a b = absurd a
lt-negative (inf false) y a b = absurd a
lt-negative (inf true) nan a b = absurd b
lt-negative (inf true) (inf false) a b = absurd b
lt-negative (inf true) (inf true) a b = refl
lt-negative (inf true) (fin t n d) a b = refl
lt-negative (fin false m e) y a b = absurd a
lt-negative (fin true m e) nan a b = absurd b
lt-negative (fin true m e) (inf false) a b = absurd b
lt-negative (fin true m e) (inf true) a b = refl
lt-negative (fin true m e) (fin false n d) a b = absurd b
lt-negative (fin true m e) (fin true n d) a b = refl

-- nothing with the sign plus is below a value with the sign minus
lt-apart : (x y : Float) → T (clear x) → T (negative y) → lt x y ≡ false
unfolding lt
lt-apart nan y a b = absurd a
lt-apart (inf true) y a b = absurd a
lt-apart (inf false) nan a b = absurd b
lt-apart (inf false) (inf t) a b = refl
lt-apart (inf false) (fin t n d) a b = refl
lt-apart (fin true m e) y a b = absurd a
lt-apart (fin false m e) nan a b = absurd b
lt-apart (fin false m e) (inf true) a b = refl
lt-apart (fin false m e) (inf false) a b = absurd b
lt-apart (fin false m e) (fin false n d) a b = absurd b
lt-apart (fin false m e) (fin true n d) a b = refl

-- ---- the keys of the three kinds
key-nan : (f : Format) → order_key f nan ≡ 2 * top f - 1
unfolding order_key is_nan
key-nan f = refl

key-clear : (f : Format) (x : Float) → T (clear x) → T (fits f x) → order_key f x ≡ to_bits f x + top f
unfolding order_key
key-clear f x c h = rw ((clear-is x c).0, lt-ltb (to_bits f x) (top f) (clear-under f x c h))

key-negative : (f : Format) (x : Float) → T (negative x) → order_key f x ≡ 2 * top f - 1 - (top f + to_bits f (magnitude_of x))
unfolding order_key
key-negative f x n = rw ((negative-is x n).0, minus-bits f x n, le-ltb (top f + to_bits f (magnitude_of x)) (top f) (omega arith))

-- ---- the order of two keys
same-leb : (a b c d : ℕ) → (a ≤ b → c ≤ d) → (c ≤ d → a ≤ b) → leb a b ≡ leb c d
same-leb a b c d p q = same_test (leb a b) (leb c d) (λ t. le→leb c d (p (leb→le a b t))) (λ t. le→leb a b (q (leb→le c d t)))

always : (t b : Bool) → cond t b b ≡ b
always true b = refl
always false b = refl

-- total_order's ladder at one sign
ladder : (a b : ℕ) → cond (ltb a b) true (cond (ltb b a) false true) ≡ leb a b
ladder a b = elim (lt-or-ge b a) [
  | inl l ↦ rw (le-ltb a b (le_of_lt l), lt-ltb b a l, lt-leb a b l)
  | inr g ↦ rw (le-ltb b a g, le-leb a b g) (always (ltb a b) true)
]

raised : (a b t : ℕ) → leb a b ≡ leb (a + t) (b + t)
raised a b t = same-leb a b (a + t) (b + t) (λ h. omega arith) (λ h. omega arith)

turned : (a b t : ℕ) → a < t → b < t → leb b a ≡ leb (2 * t - 1 - (t + a)) (2 * t - 1 - (t + b))
turned a b t h k = same-leb b a (2 * t - 1 - (t + a)) (2 * t - 1 - (t + b)) (λ l. omega arith) (λ l. omega arith)

module _ (f : Format) (x y : Float) (h : T (fits f x)) (k : T (fits f y)) where
  both-clear : T (clear x) → T (clear y) → total_order x y ≡ leb (order_key f x) (order_key f y)
  unfolding total_order
  both-clear a b =
      simp ((clear-is x a).0, (clear-is x a).1, (clear-is y b).0, (clear-is y b).1, lt-clear f x y a b h k, lt-clear f y x b a k h, key-clear f x a h, key-clear f y b k)
      (ladder (to_bits f x) (to_bits f y) ∙ raised (to_bits f x) (to_bits f y) (top f))

  both_negative : T (negative x) → T (negative y) → total_order x y ≡ leb (order_key f x) (order_key f y)
  unfolding total_order
  both_negative a b =
      let u = magnitude_of x in
      let v = magnitude_of y in
      let uc = magnitude-clear x a in
      let vc = magnitude-clear y b in
      let uf = magnitude-fits f x h in
      let vf = magnitude-fits f y k in
      simp ((negative-is x a).0, (negative-is x a).1, (negative-is y b).0, (negative-is y b).1, lt-negative x y a b, lt-negative y x b a, lt-clear f v u vc uc vf uf, lt-clear f u v uc vc uf vf, key-negative f x a, key-negative f y b)
      (ladder (to_bits f v) (to_bits f u) ∙ turned (to_bits f u) (to_bits f v) (top f) (clear-under f u uc uf) (clear-under f v vc vf))

  negative-clear : T (negative x) → T (clear y) → total_order x y ≡ leb (order_key f x) (order_key f y)
  unfolding total_order
  negative-clear a b =
      simp ((negative-is x a).0, (negative-is x a).1, (clear-is y b).0, (clear-is y b).1, lt-apart y x b a, key-negative f x a, key-clear f y b k)
      (always (lt x y) true ∙ sym (le-leb (2 * top f - 1 - (top f + to_bits f (magnitude_of x))) (to_bits f y + top f) (under (top f) (to_bits f (magnitude_of x)) (to_bits f y))))
    where
      under : (t a b : ℕ) → 2 * t - 1 - (t + a) ≤ b + t
      under t a b = omega arith

  clear-negative : T (clear x) → T (negative y) → total_order x y ≡ leb (order_key f x) (order_key f y)
  unfolding total_order
  clear-negative a b =
      simp ((clear-is x a).0, (clear-is x a).1, (negative-is y b).0, (negative-is y b).1, lt-apart x y a b, key-clear f x a h, key-negative f y b)
      (always (lt y x) false ∙ sym (lt-leb (to_bits f x + top f) (2 * top f - 1 - (top f + to_bits f (magnitude_of y))) (over (top f) (to_bits f x) (to_bits f (magnitude_of y)) (clear-under f x a h))))
    where
      over : (t a b : ℕ) → a < t → 2 * t - 1 - (t + b) < a + t
      over t a b l = omega arith

-- ---- the NaN is after every number
number-key : (f : Format) (x : Float) → T (fits f x) → T (clear x) ⊎ T (negative x) → (is_nan x ≡ false) × (order_key f x < 2 * top f - 1)
number-key f x h (inl a) = ((clear-is x a).0, subst (λ (n : ℕ). n < 2 * top f - 1) (sym (key-clear f x a h)) (under f (to_bits f x) (clear-upto f x a h)))
  where
    under : (g : Format) (b : ℕ) → b ≤ ones g * hid g → b + top g < 2 * top g - 1
    under binary32 b l = omega arith
    under binary64 b l = omega arith
number-key f x h (inr a) = ((negative-is x a).0, subst (λ (n : ℕ). n < 2 * top f - 1) (sym (key-negative f x a)) (under f (to_bits f (magnitude_of x))))
  where
    under : (g : Format) (b : ℕ) → 2 * top g - 1 - (top g + b) < 2 * top g - 1
    under binary32 b = omega arith
    under binary64 b = omega arith

nan-before : (x : Float) → total_order nan x ≡ is_nan x
unfolding total_order is_nan
nan-before x = refl

before-nan : (x : Float) → total_order x nan ≡ true
unfolding total_order is_nan
before-nan x = always (is_nan x) true

nan-number : (f : Format) (y : Float) → T (fits f y) → T (clear y) ⊎ T (negative y) → total_order nan y ≡ leb (order_key f nan) (order_key f y)
nan-number f y k b =
    let n = number-key f y k b in
    nan-before y ∙ n.0 ∙ sym (ap (λ (a : ℕ). leb a (order_key f y)) (key-nan f) ∙ lt-leb (2 * top f - 1) (order_key f y) n.1)

number-nan : (f : Format) (x : Float) → T (fits f x) → T (clear x) ⊎ T (negative x) → total_order x nan ≡ leb (order_key f x) (order_key f nan)
number-nan f x h a =
    before-nan x ∙ sym (ap (leb (order_key f x)) (key-nan f) ∙ le-leb (order_key f x) (2 * top f - 1) (le_of_lt (number-key f x h a).1))

-- ---- the laws, over the format
module _ (f : Format) where
  by_key : (x y : Float) → T (fits f x) → T (fits f y) → total_order x y ≡ leb (order_key f x) (order_key f y)
  by_key x y h k = by-kinds (kind x) (kind y)
    where
      by-kinds : (x ≡ nan) ⊎ (T (clear x) ⊎ T (negative x)) → (y ≡ nan) ⊎ (T (clear y) ⊎ T (negative y)) → total_order x y ≡ leb (order_key f x) (order_key f y)
      by-kinds (inl p) (inl q) = rw (p, q) (before-nan nan ∙ sym (le-leb (order_key f nan) (order_key f nan) (le_refl (order_key f nan))))
      by-kinds (inl p) (inr b) = rw p (nan-number f y k b)
      by-kinds (inr a) (inl q) = rw q (number-nan f x h a)
      by-kinds (inr (inl a)) (inr (inl b)) = both-clear f x y h k a b
      by-kinds (inr (inl a)) (inr (inr b)) = clear-negative f x y h k a b
      by-kinds (inr (inr a)) (inr (inl b)) = negative-clear f x y h k a b
      by-kinds (inr (inr a)) (inr (inr b)) = both_negative f x y h k a b

  not-nan-key : (z : Float) → T (fits f z) → T (clear z) ⊎ T (negative z) → order_key f z ≡ order_key f nan → ⊥
  not-nan-key z g a q = lt_irrefl (2 * top f - 1) (subst (λ (n : ℕ). n < 2 * top f - 1) (q ∙ key-nan f) (number-key f z g a).1)

  apart : (u v : Float) → T (fits f u) → T (clear u) → T (negative v) → order_key f u ≡ order_key f v → ⊥
  apart u v g a b q = clash (top f) (to_bits f u) (to_bits f (magnitude_of v)) (clear-under f u a g) (sym (key-clear f u a g) ∙ q ∙ key-negative f v b)
    where
      clash : (t a b : ℕ) → a < t → a + t ≡ 2 * t - 1 - (t + b) → ⊥
      clash t a b l e = omega arith

  known_by_key : (x y : Float) → T (fits f x) → T (fits f y) → order_key f x ≡ order_key f y → x ≡ y
  known_by_key x y h k p = by-kinds (kind x) (kind y)
    where
      lowered : (t a b : ℕ) → a + t ≡ b + t → a ≡ b
      lowered t a b e = omega arith

      turned-back : (t a b : ℕ) → a < t → b < t → 2 * t - 1 - (t + a) ≡ 2 * t - 1 - (t + b) → a ≡ b
      turned-back t a b l g e = omega arith

      by-kinds : (x ≡ nan) ⊎ (T (clear x) ⊎ T (negative x)) → (y ≡ nan) ⊎ (T (clear y) ⊎ T (negative y)) → x ≡ y
      by-kinds (inl a) (inl b) = a ∙ sym b
      by-kinds (inl a) (inr b) = absurd (not-nan-key y k b (sym p ∙ ap (order_key f) a))
      by-kinds (inr a) (inl b) = absurd (not-nan-key x h a (p ∙ ap (order_key f) b))
      by-kinds (inr (inl a)) (inr (inl b)) = known-by-bits f x y h k (lowered (top f) (to_bits f x) (to_bits f y) (sym (key-clear f x a h) ∙ p ∙ key-clear f y b k))
      by-kinds (inr (inl a)) (inr (inr b)) = absurd (apart x y h a b p)
      by-kinds (inr (inr a)) (inr (inl b)) = absurd (apart y x k b a (sym p))
      by-kinds (inr (inr a)) (inr (inr b)) =
          let u = magnitude_of x in
          let v = magnitude_of y in
          known-by-bits f x y h k
          (minus-bits f x a
          ∙ ap (λ (n : ℕ). top f + n)
          (turned-back (top f) (to_bits f u) (to_bits f v) (clear-under f u (magnitude-clear x a) (magnitude-fits f x h)) (clear-under f v (magnitude-clear y b) (magnitude-fits f y k))
          (sym (key-negative f x a) ∙ p ∙ key-negative f y b))
          ∙ sym (minus-bits f y b))

  key-le : (x y : Float) → T (fits f x) → T (fits f y) → T (total_order x y) → order_key f x ≤ order_key f y
  key-le x y h k t = leb→le (order_key f x) (order_key f y) (subst T (by_key x y h k) t)

  le-key : (x y : Float) → T (fits f x) → T (fits f y) → order_key f x ≤ order_key f y → T (total_order x y)
  le-key x y h k l = subst T (sym (by_key x y h k)) (le→leb (order_key f x) (order_key f y) l)

-- where `<` decides, total_order follows it
by_value : (x y : Float) → T (lt x y) → (total_order x y ≡ true) × (total_order y x ≡ false)
unfolding total_order
by_value x y l =
    let xn = ordered-is x (le_left x y (lt→le x y l)) in
    let yn = ordered-is y (le_right x y (lt→le x y l)) in
    let below = is_true (lt x y) l in
    let above = is_false (lt y x) (le→not-lt x y (lt→le x y l)) in
    (rw (xn, yn, below), rw (yn, xn, above, below))

-- two values that the format holds, neither above the other and of one sign, are one
pub same_rank : (f : Format) (x y : Float) → T (fits f x) → T (fits f y) → negative x ≡ negative y → T (le x y) → T (le y x) → x ≡ y
unfolding total_order
same_rank f x y h k e l g =
    let xn = ordered-is x (le_left x y l) in
    let yn = ordered-is y (le_right x y l) in
    let up = is_false (lt y x) (le→not-lt x y l) in
    let down = is_false (lt x y) (le→not-lt y x g) in
    let one-sign : (b : Bool) → T (b || not b) = λ b. elim b as (λ k. T (k || not k)) [ true ↦ tt | false ↦ tt ] in
    let forth : T (total_order x y) = rw (xn, yn, up, down, e) (one-sign (negative y)) in
    let back : T (total_order y x) = rw (yn, xn, up, down, e) (one-sign (negative y)) in
    known_by_key f x y h k (le_antisymm (key-le f x y h k forth) (key-le f y x k h back))

pub total-order : TotalOrder
total-order f = record {
  total = λ x y h k. elim (lt-or-ge (order_key f x) (order_key f y)) [ inl l ↦ inl (le-key f x y h k (le_of_lt l)) | inr g ↦ inr (le-key f y x k h g) ];
  antisymmetric = λ x y h k s t. known_by_key f x y h k (le_antisymm (key-le f x y h k s) (key-le f y x k h t));
  transitive = λ x y z h k l s t. le-key f x z h l (le_trans (key-le f x y h k s) (key-le f y z k l t));
  by_value = by_value;
  zeros = unfold total_order is_nan lt in (refl, refl);
  nan_last = λ x. (before-nan x, nan-before x);
  by_key = by_key f;
  known_by_key = known_by_key f;
}
