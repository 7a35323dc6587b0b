-- Conversion rounds to the nearest value, ties to even. A size and the values that the format holds are counted in its smallest value, where proofs/Grid.antt
-- has the facts; and between two values whose last digits are even there is a third, so that no other value is rounded to.
use mathlib.Core.Path.{◌≡◌, refl, sym, ap, ap₂, ◌∙◌, subst, subst₂}
use mathlib.Core.Logic.{◌⊎◌, inl, inr}
use Prim.Native.Nat.{ℕ, zero, suc, ◌+◌, ◌-◌, ◌*◌, ◌/◌, ◌%◌, ◌^◌, ◌≤◌, ◌<◌}
use native.Mathlib.Nat.{le_refl, le_trans, le_of_eq, le_antisymm, lt_irrefl, lt_of_lt_of_le, lt_of_not-le, le_of_lt, le_of_suc-le-suc, not-le_of_lt, eq_of_mul-eq-mul_right, zero-add, mul-div_cancel, div-lt_iff_lt-mul, eq-zero-or-pos, mul-lt-mul_of_pos_right, mul_comm, mul_assoc, mul_right_comm, zero-mul, mul-pos, add-mul, mul-le-mul_right, le_of_mul-le-mul_right}
use native.Mathlib.Omega.{arith}
use mathlib.Core.Bool.{Bool, true, false, not, beq, cond, true≢false, false≢true}
use lib.IntN.{ℤ}
use lib.Dec.{T, ltb, ltb→lt, lt→ltb}
use lib.Pow.{pow-add, pow_pos}
use lib.Ieee.{Float, nan, inf, fin, Format, binary32, binary64, prec, emax, low, ones, hid, top, up, down, odd, units, round, fits, is_nan, of_fields, of_bits, to_bits, neg}
use lib.Ieee.Fits.{round_is, round-fits, neg-fits, down_pos, two, two-le_pos}
use lib.Ieee.Bits.{of_bits-fits, to_bits-of_bits}
use lib.Ieee.Exact.{HasValue, units_val}
use lib.Ieee.Order.{drop, kept}
use lib.Ieee.Scale.{finite, overflow}
use lib.Ieee.Positive.{num, den, den_pos}
use Rattle.laws.specs.Values.{negative, nonneg, magnitude_of, Held}
use Rattle.laws.specs.Convert.{converted, gap, distance, range_end, RoundsToEven, Conversion}
use Rattle.laws.proofs.Cases.{same_test, lt-or-ge}
use Rattle.laws.proofs.Signs.{not-nan, ordered-is, neg-round, neg-neg, magnitude-fits, magnitude-of-negative, magnitude-of-positive, minus-bits}
use Rattle.laws.proofs.Patterns.{pattern, pattern-mono, written, bits-of-units, known-by-bits, read-plus, no_lead, with_lead}
use Rattle.laws.proofs.Nonneg.{nonneg→ordered, sub-mul}
use Rattle.laws.proofs.Held.{InUnits, fits-units, held_same, value-nonneg}
use Rattle.laws.proofs.Total.{held-lt}
use Rattle.laws.proofs.Grid.{kept-most, kept-least, nearest-units, even-units, below_end, from_end}

-- ---- distances as fractions, and counted in units of 1 / l
gap-mul : (a b k : ℕ) → gap a b * k ≡ gap (a * k) (b * k)
gap-mul a b k = add-mul (a - b) (b - a) k ∙ ap₂ (λ (x y : ℕ). x + y) (sub-mul a b k) (sub-mul b a k)

-- a / c is a * l / c units, and b / d is z of them
in-units : (a c l b d z : ℕ) → b * l ≡ z * d → gap (a * d) (b * c) * l ≡ gap (a * l) (z * c) * d
in-units a c l b d z e =
    gap-mul (a * d) (b * c) l
    ∙ ap₂ gap (mul_right_comm a d l) (mul_right_comm b c l ∙ ap (λ (x : ℕ). x * c) e ∙ mul_right_comm z d c)
    ∙ sym (gap-mul (a * l) (z * c) d)

-- r is as near to a / c as y is: in fractions just where it is in units
module _ (a c l nr dr r ny dy y : ℕ) (L : 0 < l) (R : 0 < dr) (Y : 0 < dy) (er : nr * l ≡ r * dr) (ey : ny * l ≡ y * dy) where
  near-r : gap (a * dr) (nr * c) * dy * l ≡ gap (a * l) (r * c) * (dr * dy)
  near-r = mul_right_comm (gap (a * dr) (nr * c)) dy l ∙ ap (λ (x : ℕ). x * dy) (in-units a c l nr dr r er) ∙ mul_assoc (gap (a * l) (r * c)) dr dy

  near-y : gap (a * dy) (ny * c) * dr * l ≡ gap (a * l) (y * c) * (dr * dy)
  near-y =
      mul_right_comm (gap (a * dy) (ny * c)) dr l
      ∙ ap (λ (x : ℕ). x * dr) (in-units a c l ny dy y ey)
      ∙ mul_assoc (gap (a * l) (y * c)) dy dr
      ∙ ap (λ (x : ℕ). gap (a * l) (y * c) * x) (mul_comm dy dr)

  from-units : gap (a * l) (r * c) ≤ gap (a * l) (y * c) → gap (a * dr) (nr * c) * dy ≤ gap (a * dy) (ny * c) * dr
  from-units h = le_of_mul-le-mul_right (le_trans (le_of_eq near-r) (le_trans (mul-le-mul_right (dr * dy) h) (le_of_eq (sym near-y)))) L

  into-units : gap (a * dr) (nr * c) * dy ≤ gap (a * dy) (ny * c) * dr → gap (a * l) (r * c) ≤ gap (a * l) (y * c)
  into-units h = le_of_mul-le-mul_right (le_trans (le_of_eq (sym near-r)) (le_trans (mul-le-mul_right l h) (le_of_eq near-y))) (mul-pos R Y)

-- a finite value that the format holds, in units of its smallest value
units_of : (f : Format) (y : Float) → T (fits f y) → T (finite y) → InUnits f (num y) (den y)
unfolding magnitude_of
units_of f nan h t = absurd t
units_of f (inf s) h t = absurd t
units_of f (fin s m e) h t = fits-units f (fin false m e) tt (magnitude-fits f (fin s m e) h)

-- ---- the distance, by the signs
alike : (s t : Bool) (x y : ℕ) → t ≡ s → cond (beq s t) x y ≡ x
alike true true x y e = refl
alike true false x y e = absurd (false≢true e)
alike false true x y e = absurd (true≢false e)
alike false false x y e = refl

sides : (s t : Bool) → (t ≡ s) ⊎ ((x y : ℕ) → cond (beq s t) x y ≡ y)
sides true true = inl refl
sides true false = inr (λ x y. refl)
sides false true = inr (λ x y. refl)
sides false false = inl refl

same-side : (x r : Float) → negative r ≡ negative x → distance x r ≡ gap (num x * den r) (num r * den x)
same-side x r e = alike (negative x) (negative r) _ _ e

at_least : (x y : Float) → gap (num x * den y) (num y * den x) ≤ distance x y
at_least x y = go (beq (negative x) (negative y))
  where
    apart : (a b : ℕ) → gap a b ≤ a + b
    apart a b = omega arith

    go : (t : Bool) → gap (num x * den y) (num y * den x) ≤ cond t (gap (num x * den y) (num y * den x)) (num x * den y + num y * den x)
    go true = le_refl (gap (num x * den y) (num y * den x))
    go false = apart (num x * den y) (num y * den x)

-- ---- a fraction a / c rounded, with either sign
finite-odd : (d : ℕ) (s : Bool) (q k l : ℕ) → finite (odd d s q k l) ≡ true
unfolding odd
finite-odd d s zero k l = refl
finite-odd d s (suc q) k l = refl

finite-units : (f : Format) (s : Bool) (q k : ℕ) → finite (units f s q k) ≡ ltb (q * 2 ^ k) (overflow f)
unfolding units
finite-units f s q k = go (ltb (q * 2 ^ k) (overflow f))
  where
    go : (b : Bool) → finite (cond b (odd (suc (prec f)) s q k (low f)) (inf s)) ≡ b
    go true = finite-odd (suc (prec f)) s q k (low f)
    go false = refl

negative-units : (f : Format) (s : Bool) (q k : ℕ) → (negative (units f s q k) ≡ s) × (is_nan (units f s q k) ≡ false)
unfolding units odd is_nan
negative-units f s q k = go (ltb (q * 2 ^ k) (overflow f)) q
  where
    go : (b : Bool) (q : ℕ) → (negative (cond b (odd (suc (prec f)) s q k (low f)) (inf s)) ≡ s) × (is_nan (cond b (odd (suc (prec f)) s q k (low f)) (inf s)) ≡ false)
    go true zero = (refl, refl)
    go true (suc q) = (refl, refl)
    go false q = (refl, refl)

crossed : (x : Float) (s : Bool) (a c : ℕ) → HasValue x s a c → num x * c ≡ a * den x
crossed nan s a c h = absurd h
crossed (inf t) s a c h = absurd h
crossed (fin t m e) s a c h = h.1

-- how many digits are dropped at the range's end, but one
abbrev spare : Format → ℕ
spare f = emax f - prec f + low f

overflow-is : (f : Format) → (low f + suc (emax f) ≡ prec f + suc (spare f)) × (suc (emax f) + low f ≡ prec f + suc (spare f))
overflow-is binary32 = (refl, refl)
overflow-is binary64 = (refl, refl)

range-units : (f : Format) → range_end f * 2 ^ low f ≡ 2 ^ (prec f + suc (spare f)) - 2 ^ spare f
range-units f =
    sub-mul (2 ^ suc (emax f)) (2 ^ (emax f - prec f)) (2 ^ low f)
    ∙ ap₂ (λ (x y : ℕ). x - y) (sym (pow-add 2 (suc (emax f)) (low f)) ∙ ap (λ (j : ℕ). 2 ^ j) (overflow-is f).1) (sym (pow-add 2 (emax f - prec f) (low f)))

even-top : (f : Format) (b : ℕ) → b % 2 ≡ 0 → (top f + b) % 2 ≡ 0
even-top binary32 b e = omega arith
even-top binary64 b e = omega arith

even-field : (f : Format) (k q : ℕ) → q % 2 ≡ 0 → (k * hid f + q) % 2 ≡ 0
even-field binary32 k q e = omega arith
even-field binary64 k q e = omega arith

module _ (f : Format) (a c : ℕ) (C : 0 < c) where
  abbrev n : ℕ
  n = a * 2 ^ low f

  abbrev k : ℕ
  k = drop (prec f) n c

  abbrev q : ℕ
  q = kept (prec f) n c

  digits : 0 < prec f
  digits = two-le_pos (prec f) (two f)

  leads : (k ≡ 0) ⊎ (hid f ≤ q)
  leads = elim (eq-zero-or-pos k) [ inl z ↦ inl z | inr K ↦ inr (kept-least (prec f) n c digits C K) ]

  range : ltb (q * 2 ^ k) (overflow f) ≡ ltb a (range_end f * c)
  range = same_test (ltb (q * 2 ^ k) (overflow f)) (ltb a (range_end f * c)) forth back
    where
      places : overflow f ≡ 2 ^ (prec f + suc (spare f))
      places = ap (λ (j : ℕ). 2 ^ j) (overflow-is f).0

      end : range_end f * c * 2 ^ low f ≡ (2 ^ (prec f + suc (spare f)) - 2 ^ spare f) * c
      end = mul_right_comm (range_end f) c (2 ^ low f) ∙ ap (λ (x : ℕ). x * c) (range-units f)

      forth : T (ltb (q * 2 ^ k) (overflow f)) → T (ltb a (range_end f * c))
      forth t = elim (lt-or-ge a (range_end f * c)) [
        | inl l ↦ lt→ltb a (range_end f * c) l
        | inr g ↦
            absurd (not-le_of_lt (ltb→lt (q * 2 ^ k) (overflow f) t)
            (le_trans (le_of_eq places) (from_end (prec f) n c digits C (spare f) (le_trans (le_of_eq (sym end)) (mul-le-mul_right (2 ^ low f) g)))))
      ]

      back : T (ltb a (range_end f * c)) → T (ltb (q * 2 ^ k) (overflow f))
      back t =
          lt→ltb (q * 2 ^ k) (overflow f)
          (lt_of_lt_of_le (below_end (prec f) n c digits C (spare f) (lt_of_lt_of_le (mul-lt-mul_of_pos_right (ltb→lt a (range_end f * c) t) (pow_pos (low f))) (le_of_eq end))) (le_of_eq (sym places)))

  module _ (s : Bool) where
    abbrev r : Float
    r = round f s a c

    is : r ≡ units f s q k
    is = round_is f s a c

    finite-is : finite r ≡ ltb (q * 2 ^ k) (overflow f)
    finite-is = ap finite is ∙ finite-units f s q k

    sign-is : negative r ≡ s
    sign-is = ap negative is ∙ (negative-units f s q k).0

    under : T (finite r) → q * 2 ^ k < overflow f
    under t = ltb→lt (q * 2 ^ k) (overflow f) (subst T finite-is t)

    value : T (finite r) → num r * 2 ^ low f ≡ q * 2 ^ k * den r
    value t = crossed r s (q * 2 ^ k) (2 ^ low f) (subst (λ (z : Float). HasValue z s (q * 2 ^ k) (2 ^ low f)) (sym is) (units_val f s q k (under t)))

  even-plus : T (finite (round f false a c)) → q % 2 ≡ 0 → to_bits f (round f false a c) % 2 ≡ 0
  even-plus t z =
      ap (λ (b : ℕ). b % 2) (ap (to_bits f) (is false) ∙ bits-of-units f q k (kept-most (prec f) n c digits C) leads (under false t)) ∙ even-field f k q z

  even : (s : Bool) → T (finite (round f s a c)) → q % 2 ≡ 0 → to_bits f (round f s a c) % 2 ≡ 0
  even false t z = even-plus t z
  even true t z =
      let m = minus-bits f (round f true a c) (subst T (sym (sign-is true)) tt) in
      let p : magnitude_of (round f true a c) ≡ round f false a c = sym (magnitude-of-negative (round f true a c) (sign-is true)) ∙ ap neg (sym (neg-round f a c)) ∙ neg-neg (round f false a c) in
      ap (λ (b : ℕ). b % 2) (m ∙ ap (λ (z : Float). top f + to_bits f z) p)
      ∙ even-top f (to_bits f (round f false a c)) (even-plus (subst T (finite-is true ∙ sym (finite-is false)) t) z)

-- ---- two values of one sign and as many units are one
held-sizes : (f : Format) (s : Bool) (m : ℕ) (e : ℤ) (n : ℕ) (d : ℤ) → T (fits f (fin s m e)) → T (fits f (fin s n d)) → m * up e * down d ≡ n * up d * down e → fin s m e ≡ fin s n d
unfolding neg magnitude_of
held-sizes f s m e n d h k same = signed s
  where
    plus : fin false m e ≡ fin false n d
    plus = held_same f (fin false m e) (fin false n d) (record { in_format = magnitude-fits f (fin s m e) h; at_least_zero = tt }) (record { in_format = magnitude-fits f (fin s n d) k; at_least_zero = tt }) same

    signed : (t : Bool) → fin t m e ≡ fin t n d
    signed false = plus
    signed true = ap neg plus

same_units : (f : Format) (x y : Float) (z : ℕ) → T (fits f x) → T (fits f y) → T (finite x) → T (finite y) → negative x ≡ negative y → num x * 2 ^ low f ≡ z * den x → num y * 2 ^ low f ≡ z * den y → x ≡ y
same_units f nan y z h k t u g a b = absurd t
same_units f (inf s) y z h k t u g a b = absurd t
same_units f (fin s m e) nan z h k t u g a b = absurd u
same_units f (fin s m e) (inf s') z h k t u g a b = absurd u
same_units f (fin s m e) (fin s' n d) z h k t u g a b =
    subst (λ (i : Bool). fin s m e ≡ fin i n d) g
    (held-sizes f s m e n d h (subst (λ (i : Bool). T (fits f (fin i n d))) (sym g) k)
    (eq_of_mul-eq-mul_right (2 ^ low f) (pow_pos (low f)) (m * up e * down d) (n * up d * down e)
    (mul_right_comm (m * up e) (down d) (2 ^ low f)
    ∙ ap (λ (w : ℕ). w * down d) a
    ∙ mul_right_comm z (down e) (down d)
    ∙ ap (λ (w : ℕ). w * down e) (sym b)
    ∙ mul_right_comm (n * up d) (2 ^ low f) (down e))))

-- ---- a finite x rounded
sum-units : (a c l b d z : ℕ) → b * l ≡ z * d → (a * d + b * c) * l ≡ (a * l + z * c) * d
sum-units a c l b d z e =
    add-mul (a * d) (b * c) l
    ∙ ap₂ (λ (x y : ℕ). x + y) (mul_right_comm a d l) (mul_right_comm b c l ∙ ap (λ (x : ℕ). x * c) e ∙ mul_right_comm z d c)
    ∙ sym (add-mul (a * l) (z * c) d)

no-units : (q k : ℕ) → q * 2 ^ k ≡ 0 → q % 2 ≡ 0
no-units q k e = elim (eq-zero-or-pos q) [ inl z ↦ rw z | inr Q ↦ absurd (lt_irrefl 0 (subst (λ (x : ℕ). 0 < x) e (mul-pos Q (pow_pos k)))) ]

module _ (f : Format) (s : Bool) (m : ℕ) (e : ℤ) where
  abbrev x : Float
  x = fin s m e

  abbrev a : ℕ
  a = m * up e

  abbrev c : ℕ
  c = down e

  abbrev z : Float
  z = round f s a c

  abbrev g : ℕ
  g = q f a c (down_pos e) * 2 ^ k f a c (down_pos e)

  own : distance x z ≡ gap (a * den z) (num z * c)
  own = same-side x z (sign-is f a c (down_pos e) s)

  module _ (t : T (finite z)) (y : Float) (h : T (fits f y)) (w : T (finite y)) where
    abbrev i : InUnits f (num y) (den y)
    i = units_of f y h w

    abbrev v : ℕ
    v = i.q * 2 ^ i.j

    least : gap (a * 2 ^ low f) (g * c) ≤ gap (a * 2 ^ low f) (v * c)
    least = nearest-units (prec f) (a * 2 ^ low f) c (digits f a c (down_pos e)) (down_pos e) i.q i.j i.short

    nearest : distance x z * den y ≤ distance x y * den z
    nearest =
        le_trans (le_of_eq (ap (λ (b : ℕ). b * den y) own))
        (le_trans
        (from-units a c (2 ^ low f) (num z) (den z) g (num y) (den y) v (pow_pos (low f)) (den_pos z) (den_pos y) (value f a c (down_pos e) s t) i.equal least)
        (mul-le-mul_right (den z) (at_least x y)))

    module _ (same : distance x z * den y ≡ distance x y * den z) where
      as-near : gap (a * 2 ^ low f) (g * c) ≡ gap (a * 2 ^ low f) (v * c)
      as-near =
          le_antisymm least
          (into-units a c (2 ^ low f) (num y) (den y) v (num z) (den z) g (pow_pos (low f)) (den_pos y) (den_pos z) i.equal (value f a c (down_pos e) s t)
          (le_trans (mul-le-mul_right (den z) (at_least x y)) (le_of_eq (sym same ∙ ap (λ (b : ℕ). b * den y) own))))

      -- with the other sign it would be no nearer than a zero, so that it is one
      across : distance x y ≡ a * den y + num y * c → v * c ≡ 0
      across d =
          let n = a * 2 ^ low f in
          let from_zero : gap n (g * c) ≤ gap n (0 * 2 ^ 0 * c) = nearest-units (prec f) n c (digits f a c (down_pos e)) (down_pos e) 0 0 (pow_pos (prec f)) in
          let none : 0 * 2 ^ 0 * c ≡ 0 = zero-mul c in
          let whole : gap n (g * c) * (den z * den y) ≡ (n + v * c) * (den z * den y) =
          sym (near-r a c (2 ^ low f) (num z) (den z) g (num y) (den y) v (pow_pos (low f)) (den_pos z) (den_pos y) (value f a c (down_pos e) s t) i.equal)
          ∙ ap (λ (b : ℕ). b * 2 ^ low f) (ap (λ (b : ℕ). b * den y) (sym own) ∙ same ∙ ap (λ (b : ℕ). b * den z) d)
          ∙ mul_right_comm (a * den y + num y * c) (den z) (2 ^ low f)
          ∙ ap (λ (b : ℕ). b * den z) (sum-units a c (2 ^ low f) (num y) (den y) v i.equal)
          ∙ mul_right_comm (n + v * c) (den y) (den z)
          ∙ mul_assoc (n + v * c) (den z) (den y) in
          let sum : gap n (g * c) ≡ n + v * c = eq_of_mul-eq-mul_right (den z * den y) (mul-pos (den_pos z) (den_pos y)) (gap n (g * c)) (n + v * c) whole in
          no_more n (v * c) (gap n (g * c)) (0 * 2 ^ 0 * c) none from_zero sum
        where
          no_more : (n w u o : ℕ) → o ≡ 0 → u ≤ gap n o → u ≡ n + w → w ≡ 0
          no_more n w u o z l h = omega arith

      ties : (y ≡ z → ⊥) → to_bits f z % 2 ≡ 0
      ties other =
          even f a c (down_pos e) s t
          (even-units (prec f) (a * 2 ^ low f) c (digits f a c (down_pos e)) (down_pos e) i.q i.j i.short as-near
          (λ (b : v ≡ g). elim (sides s (negative y)) [
            | inl j ↦
                absurd (other (same_units f y z v h (round-fits f s a c) w t (j ∙ sym (sign-is f a c (down_pos e) s)) i.equal
                (value f a c (down_pos e) s t ∙ ap (λ (u : ℕ). u * den z) (sym b))))
            | inr j ↦ no-units (q f a c (down_pos e)) (k f a c (down_pos e)) (sym b ∙ nothing v c (down_pos e) (across (j _ _)))
          ]))
        where
          nothing : (u c : ℕ) → 0 < c → u * c ≡ 0 → u ≡ 0
          nothing u c C h = elim (eq-zero-or-pos u) [ inl z ↦ z | inr p ↦ absurd (lt_irrefl 0 (subst (λ (b : ℕ). 0 < b) h (mul-pos p C))) ]

  rounded : RoundsToEven f x z
  rounded = record {
    held = round-fits f s a c;
    number = ap is_nan (is f a c (down_pos e) s) ∙ (negative-units f s (q f a c (down_pos e)) (k f a c (down_pos e))).1;
    sign = sign-is f a c (down_pos e) s;
    in_range = finite-is f a c (down_pos e) s ∙ range f a c (down_pos e);
    nearest = nearest;
    ties_even = λ t y h w other same. ties t y h w same other;
  }

-- ---- and to no other value: patterns count the sizes
signed-bits : (f : Format) (z : Float) (t : Bool) → negative z ≡ t → to_bits f z ≡ cond t (top f) 0 + to_bits f (magnitude_of z)
signed-bits f z true n = minus-bits f z (subst T (sym n) tt)
signed-bits f z false n = ap (to_bits f) (magnitude-of-positive z n) ∙ sym (zero-add (to_bits f (magnitude_of z)))

even-size : (f : Format) (t : Bool) (b : ℕ) → (cond t (top f) 0 + b) % 2 ≡ 0 → b % 2 ≡ 0
even-size binary32 true b e = omega arith
even-size binary64 true b e = omega arith
even-size f false b e = omega arith

size-bits : (f : Format) (z : Float) (v : ℕ) → T (finite z) → num z * 2 ^ low f ≡ v * den z → to_bits f (magnitude_of z) ≡ pattern f v
unfolding magnitude_of
size-bits f nan v t e = absurd t
size-bits f (inf s) v t e = absurd t
size-bits f (fin s m d) v t e = written f m d ∙ ap (pattern f) (ap (λ (a : ℕ). a / down d) e ∙ mul-div_cancel v (down_pos d))

magnitude-held : (f : Format) (z : Float) → T (fits f z) → T (finite z) → Held f (magnitude_of z)
unfolding magnitude_of
magnitude-held f nan h t = absurd t
magnitude-held f (inf s) h t = absurd t
magnitude-held f (fin s m e) h t = record { in_format = magnitude-fits f (fin s m e) h; at_least_zero = tt }

-- the value of a pattern below the infinity's
fields-nonneg : (f : Format) (x t : ℕ) → x < ones f → T (nonneg (of_fields f false x t))
fields-nonneg f zero t h = value-nonneg (of_fields f false 0 t) t (2 ^ low f) (no_lead f false t)
fields-nonneg f (suc x) t h = value-nonneg (of_fields f false (suc x) t) ((hid f + t) * 2 ^ x) (2 ^ low f) (with_lead f false x t h)

below_top : (f : Format) (b : ℕ) → b < ones f * hid f → (b < top f) × (b < 2 * top f)
below_top binary32 b h = (omega arith, omega arith)
below_top binary64 b h = (omega arith, omega arith)

pattern-held : (f : Format) (b : ℕ) → b < ones f * hid f → Held f (of_bits f b) × (to_bits f (of_bits f b) ≡ b)
pattern-held f b h =
    let p : T (nonneg (of_bits f b)) = subst (λ (z : Float). T (nonneg z)) (sym (read-plus f b (below_top f b h).0)) (fields-nonneg f (b / hid f) (b % hid f) ((div-lt_iff_lt-mul (pow_pos (prec f - 1))).1 h)) in
    (record { in_format = of_bits-fits f b; at_least_zero = p }, to_bits-of_bits f b (below_top f b h).1 (number (of_bits f b) p))
  where
    number : (z : Float) → T (nonneg z) → T (not (is_nan z))
    number z p = not-nan z (ordered-is z (nonneg→ordered z p))

-- the same size with a given sign
record Signed (f : Format) (t : Bool) (z : Float) : Type 0 where
  y : Float
  held : T (fits f y)
  some : T (finite y)
  sign : negative y ≡ t
  size : magnitude_of y ≡ z

with-sign : (f : Format) (t : Bool) (z : Float) → Held f z → Signed f t z
unfolding magnitude_of neg
with-sign f t nan h = absurd h.at_least_zero
with-sign f t (inf s) h = absurd h.at_least_zero
with-sign f t (fin true m e) h = absurd h.at_least_zero
with-sign f true (fin false m e) h = record { y = fin true m e; held = neg-fits f (fin false m e) h.in_format; some = tt; sign = refl; size = refl }
with-sign f false (fin false m e) h = record { y = fin false m e; held = h.in_format; some = tt; sign = refl; size = refl }

fewer-units : (f : Format) (u v : ℕ) → pattern f u < pattern f v → u < v
fewer-units f u v h = elim (lt-or-ge u v) [ inl l ↦ l | inr g ↦ absurd (not-le_of_lt h (pattern-mono f v u g)) ]

-- y lies between r and s, so that nothing is as near to both of them as to y
squeezed : (n r y s : ℕ) → r < y → y < s → gap n r ≤ gap n y → gap n s ≤ gap n y → ⊥
squeezed n r y s a b h k = omega arith

-- how many units a held value is
count : (f : Format) (y : Float) → T (fits f y) → T (finite y) → ℕ
count f y h w = (units_of f y h w).q * 2 ^ (units_of f y h w).j

count_bits : (f : Format) (y : Float) (h : T (fits f y)) (w : T (finite y)) → to_bits f (magnitude_of y) ≡ pattern f (count f y h w)
unfolding count
count_bits f y h w = size-bits f y (count f y h w) w (units_of f y h w).equal

module _ (f : Format) (x : Float) where
  counted : (r y : Float) (p : RoundsToEven f x r) (t : T (finite r)) (h : T (fits f y)) (w : T (finite y)) → negative y ≡ negative x → gap (num x * 2 ^ low f) (count f r p.held t * den x) ≤ gap (num x * 2 ^ low f) (count f y h w * den x)
  unfolding count
  counted r y p t h w n =
      let ir = units_of f r p.held t in
      let iy = units_of f y h w in
      into-units (num x) (den x) (2 ^ low f) (num r) (den r) (ir.q * 2 ^ ir.j) (num y) (den y) (iy.q * 2 ^ iy.j) (pow_pos (low f)) (den_pos r) (den_pos y) ir.equal iy.equal
      (le_trans (le_of_eq (ap (λ (b : ℕ). b * den y) (sym (same-side x r p.sign)))) (le_trans (p.nearest t y h w) (le_of_eq (ap (λ (b : ℕ). b * den r) (same-side x y n)))))

  module _ (r s : Float) (pr : RoundsToEven f x r) (ps : RoundsToEven f x s) (tr : T (finite r)) (ts : T (finite s)) where
    abbrev br : ℕ
    br = to_bits f (magnitude_of r)

    abbrev bs : ℕ
    bs = to_bits f (magnitude_of s)

    none_between : (y : Float) (h : T (fits f y)) (w : T (finite y)) → negative y ≡ negative x → br < to_bits f (magnitude_of y) → to_bits f (magnitude_of y) < bs → ⊥
    none_between y h w n above below =
        let nr = count f r pr.held tr in
        let ny = count f y h w in
        let ns = count f s ps.held ts in
        let from-r : nr < ny = fewer-units f nr ny (subst₂ (λ (a b : ℕ). a < b) (count_bits f r pr.held tr) (count_bits f y h w) above) in
        let to-s : ny < ns = fewer-units f ny ns (subst₂ (λ (a b : ℕ). a < b) (count_bits f y h w) (count_bits f s ps.held ts) below) in
        squeezed (num x * 2 ^ low f) (nr * den x) (ny * den x) (ns * den x) (mul-lt-mul_of_pos_right from-r (den_pos x)) (mul-lt-mul_of_pos_right to-s (den_pos x))
        (counted r y pr tr h w n) (counted s y ps ts h w n)

    -- of two such values both would be even, and the pattern behind the smaller one's lies between
    apart : br < bs → ⊥
    apart l =
        let other : r ≡ s → ⊥ = λ e. lt_irrefl bs (subst (λ (z : Float). to_bits f (magnitude_of z) < bs) e l) in
        let level : distance x r * den s ≡ distance x s * den r = le_antisymm (pr.nearest tr s ps.held ts) (ps.nearest ts r pr.held tr) in
        let er : br % 2 ≡ 0 = even-size f (negative r) br (ap (λ (b : ℕ). b % 2) (sym (signed-bits f r (negative r) refl)) ∙ pr.ties_even tr s ps.held ts (λ e. other (sym e)) level) in
        let es : bs % 2 ≡ 0 = even-size f (negative s) bs (ap (λ (b : ℕ). b % 2) (sym (signed-bits f s (negative s) refl)) ∙ ps.ties_even ts r pr.held tr other (sym level)) in
        let step : br + 1 < bs = next br bs er es l in
        let found = pattern-held f (br + 1) (lt_of_lt_of_le step (le_of_lt (held-lt f (magnitude_of s) (magnitude-held f s ps.held ts)))) in
        let z = with-sign f (negative x) (of_bits f (br + 1)) found.0 in
        let bits : to_bits f (magnitude_of z.y) ≡ br + 1 = ap (to_bits f) z.size ∙ found.1 in
        none_between z.y z.held z.some z.sign (omega arith) (omega arith)
      where
        next : (a b : ℕ) → a % 2 ≡ 0 → b % 2 ≡ 0 → a < b → a + 1 < b
        next a b e g h = omega arith

  both-finite : (r s : Float) → RoundsToEven f x r → RoundsToEven f x s → T (finite r) → T (finite s) → r ≡ s
  both-finite r s pr ps tr ts =
      let e : to_bits f (magnitude_of r) ≡ to_bits f (magnitude_of s) = level (to_bits f (magnitude_of r)) (to_bits f (magnitude_of s)) (apart r s pr ps tr ts) (apart s r ps pr ts tr) in
      known-by-bits f r s pr.held ps.held
      (signed-bits f r (negative x) pr.sign ∙ ap (λ (b : ℕ). cond (negative x) (top f) 0 + b) e ∙ sym (signed-bits f s (negative x) ps.sign))
    where
      level : (a b : ℕ) → (a < b → ⊥) → (b < a → ⊥) → a ≡ b
      level a b h k = le_antisymm (not_above a b k) (not_above b a h)
        where
          not_above : (a b : ℕ) → (b < a → ⊥) → a ≤ b
          not_above a b h = le_of_suc-le-suc (lt_of_not-le h)

  one_value : (r s : Float) → RoundsToEven f x r → RoundsToEven f x s → r ≡ s
  unfolding is_nan
  one_value nan s pr ps = absurd (true≢false pr.number)
  one_value (inf t) nan pr ps = absurd (true≢false ps.number)
  one_value (inf t) (inf u) pr ps = ap inf (pr.sign ∙ sym ps.sign)
  one_value (inf t) (fin u m e) pr ps = absurd (false≢true (pr.in_range ∙ sym ps.in_range))
  one_value (fin t n d) nan pr ps = absurd (true≢false ps.number)
  one_value (fin t n d) (inf u) pr ps = absurd (true≢false (pr.in_range ∙ sym ps.in_range))
  one_value (fin t n d) (fin u m e) pr ps = both-finite (fin t n d) (fin u m e) pr ps tt tt

-- ---- the theorem
converted-rounds : (f : Format) (x : Float) → T (finite x) → RoundsToEven f x (converted f x)
unfolding converted
converted-rounds f nan t = absurd t
converted-rounds f (inf s) t = absurd t
converted-rounds f (fin s m e) t = rounded f s m e

pub conversion : Conversion
conversion f = record {
  rounds = converted-rounds f;
  only = λ x r t p. one_value f x r (converted f x) p (converted-rounds f x t);
  infinity = λ s. unfold converted in refl;
  not_a_number = unfold converted in refl;
}
