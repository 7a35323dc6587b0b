-- The values n / 2 ^ t, as whole numbers (t = 0, Rust's `n as f64`), halves (t = 1) and finer steps: below 2 ^ prec parts they are exact, and so are their sums. So a sum
-- is bounded by its parts' bounds, from above, which shows that it does not overflow, and from below.
use mathlib.Core.Path.{◌≡◌, refl, sym, ap, ◌∙◌, subst}
use Prim.Native.Nat.{ℕ, suc, ◌+◌, ◌-◌, ◌*◌, ◌/◌, ◌^◌, ◌≤◌, ◌<◌}
use native.Mathlib.Nat.{lt_of_le_of_lt, lt_of_lt_of_le, le_of_lt, lt_of_not-le, not-le_of_lt, one-mul, mul-one, mul_comm, mul_assoc, add-mul, mul-le-mul_right, le_of_mul-le-mul_right, sub-add_cancel, le-add_left, le-add_right}
use native.Mathlib.Nat as N
use native.Mathlib.Numerals.{add-one}
use native.Mathlib.Omega.{arith}
use mathlib.Core.Bool.{false}
use lib.IntN.{pos}
use lib.Dec.{T, not_T, lit<}
use lib.Pow.{pow-add, pow_pos, pow_mono}
use lib.Ieee.{Float, fin, Format, binary32, binary64, prec, emax, low, of_int, add, lt, le}
use lib.Ieee.Fits.{round-fits}
use lib.Ieee.Exact.{HasValue}
use lib.Ieee.Positive.{num, den, den_pos, value→cross}
use lib.Ieee.Scale.{round_same}
use lib.Ieee.Order.{le_of_values, transfer}
use Rattle.laws.specs.Convert.{parts}
use Rattle.laws.specs.Values.{clear, nonneg, Held, Modest}
use Rattle.laws.proofs.Order.{lt_not_le, not-le→lt, lt_of_lt_of_le as order-lt-of-lt-of-le}
use Rattle.laws.proofs.Nonneg.{nonneg→clear, own_value, nonneg→ordered, le→cross, Rounds, rounds-mono, round-clear, add_rounds, add-mono}
use Rattle.laws.proofs.Held.{exact, value-nonneg}

-- Rust's cast of an integer
pub whole_is : (f : Format) (n : ℕ) → of_int f (pos n) ≡ parts f 0 n
unfolding of_int
whole_is f n = refl

module _ (f : Format) (t : ℕ) where
  pub parts-rounds : (n : ℕ) → Rounds f (parts f t n) n (2 ^ t)
  parts-rounds n = record { is = refl; some = pow_pos t }

  pub parts-clear : (n : ℕ) → T (clear (parts f t n))
  parts-clear n = round-clear f n (2 ^ t)

  pub parts-mono : (m n : ℕ) → m ≤ n → T (le (parts f t m) (parts f t n))
  parts-mono m n h = rounds-mono (parts-rounds m) (parts-rounds n) (mul-le-mul_right (2 ^ t) h)

short-of : (f : Format) → 2 ^ prec f ≤ 2 ^ emax f
short-of binary32 = pow_mono {i = 24} {j = 127} (le_of_lt (lit< tt))
short-of binary64 = pow_mono {i = 53} {j = 1023} (le_of_lt (lit< tt))

module _ (f : Format) (t : ℕ) (fine : t ≤ low f) where
  below_top : (n : ℕ) → n < 2 ^ prec f → n < 2 ^ emax f * 2 ^ t
  below_top n h = lt_of_lt_of_le h (N.le_trans (short-of f) (N.le-mul_of_pos_right (2 ^ emax f) (pow_pos t)))

  parts-value : (n : ℕ) → n < 2 ^ prec f → HasValue (parts f t n) false n (2 ^ t)
  parts-value n h =
      exact f n (2 ^ t) (pow_pos t)
      (record { q = n; j = low f - t; short = h; equal = ap (λ (z : ℕ). n * 2 ^ z) (sym (sub-add_cancel fine)) ∙ ap (λ (z : ℕ). n * z) (pow-add 2 (low f - t) t) ∙ sym (mul_assoc n (2 ^ (low f - t)) (2 ^ t)) })
      (lt_of_lt_of_le (below_top n h) (mul-le-mul_right (2 ^ t) (pow_mono (N.le-suc (emax f)))))

  -- the number that it is
  pub parts-cross : (n : ℕ) → n < 2 ^ prec f → num (parts f t n) * 2 ^ t ≡ n * den (parts f t n)
  parts-cross n h = value→cross (parts f t n) n (2 ^ t) (parts-value n h)

  pub parts_held : (n : ℕ) → n < 2 ^ prec f → Held f (parts f t n)
  parts_held n h = record { in_format = round-fits f false n (2 ^ t); at_least_zero = value-nonneg (parts f t n) n (2 ^ t) (parts-value n h) }

  pub parts-modest : (n : ℕ) → n < 2 ^ prec f → Modest f (parts f t n)
  parts-modest n h =
      let x = parts f t n in
      let top = fin false 1 (pos (emax f)) in
      let p = (parts_held n h).at_least_zero in
      record {
        held = parts_held n h;
        low_enough = not-le→lt x top (nonneg→ordered x p) tt (not_T (le top x) (λ (k : T (le top x)).
            not-le_of_lt (below_top n h) (over (num x) (den x) n (2 ^ emax f) (2 ^ t) (den_pos x) (parts-cross n h) (le→cross top x tt p k))));
      }
    where
      over : (a c n p u : ℕ) → 0 < c → a * u ≡ n * c → 1 * p * c ≤ a * 1 → p * u ≤ n
      over a c n p u C e h =
          le_of_mul-le-mul_right (N.le_trans (N.le_of_eq (N.mul_right_comm p u c ∙ ap (λ (z : ℕ). z * c * u) (sym (one-mul p)))) (N.le_trans (mul-le-mul_right u h) (N.le_of_eq (ap (λ (z : ℕ). z * u) (mul-one a) ∙ e)))) C

  -- ---- a value lies between n parts and n + 1
  abbrev floor_of : Float → ℕ
  floor_of x = num x * 2 ^ t / den x

  floor-le : (x : Float) (n : ℕ) → T (nonneg x) → n < 2 ^ prec f → n ≤ floor_of x → T (le (parts f t n) x)
  floor-le x n p h k = le_of_values (parts f t n) x n (2 ^ t) (num x) (den x) (pow_pos t) (den_pos x) (parts-value n h) (own_value x p) ((N.le-div_iff_mul-le (den_pos x)).0 k)

  floor-lt : (x : Float) → T (nonneg x) → suc (floor_of x) < 2 ^ prec f → T (lt x (parts f t (suc (floor_of x))))
  floor-lt x p h =
      let y = parts f t (suc (floor_of x)) in
      let q = (parts_held (suc (floor_of x)) h).at_least_zero in
      not-le→lt x y (nonneg→ordered x p) (nonneg→ordered y q) (not_T (le y x) (λ (k : T (le y x)).
      not-le_of_lt (N.lt-div-mul-add {a = num x * 2 ^ t} (den_pos x))
      (N.le_trans (N.le_of_eq (sym (N.suc-mul (floor_of x) (den x))))
      (transfer (suc (floor_of x)) (num x) (2 ^ t) (den x) (num y) (num x) (den y) (den x) (den_pos y) (den_pos x) (sym (parts-cross (suc (floor_of x)) h)) refl (le→cross y x q p k)))))

  -- ---- sums
  summed : (a p b q m n u : ℕ) → a * u ≡ m * p → b * u ≡ n * q → (a * q + b * p) * u ≡ (m + n) * (p * q)
  summed a p b q m n u d e =
      let v : a * q * u ≡ m * (p * q) = N.mul_right_comm a q u ∙ ap (λ (z : ℕ). z * q) d ∙ mul_assoc m p q in
      let w : b * p * u ≡ n * (p * q) = N.mul_right_comm b p u ∙ ap (λ (z : ℕ). z * p) e ∙ mul_assoc n q p ∙ ap (λ (z : ℕ). n * z) (mul_comm q p) in
      let x : (m + n) * (p * q) ≡ m * (p * q) + n * (p * q) = add-mul m n (p * q) in
      let y : (a * q + b * p) * u ≡ a * q * u + b * p * u = add-mul (a * q) (b * p) u in
      omega arith

  pub add_parts : (m n : ℕ) → m + n < 2 ^ prec f → add f (parts f t m) (parts f t n) ≡ parts f t (m + n)
  add_parts m n h =
      let x = parts f t m in
      let y = parts f t n in
      let a = lt_of_le_of_lt (le-add_right m n) h in
      let b = lt_of_le_of_lt (le-add_left n m) h in
      let r = add_rounds f x y (parts_held m a).at_least_zero (parts_held n b).at_least_zero in
      r.is ∙ round_same f false (num x * den y + num y * den x) (den x * den y) (m + n) (2 ^ t) r.some (pow_pos t) (summed (num x) (den x) (num y) (den y) m n (2 ^ t) (parts-cross m a) (parts-cross n b))

  pub add-under : (x y : Float) (m n : ℕ) → m + n < 2 ^ prec f → T (clear x) → T (clear y) → T (le x (parts f t m)) → T (le y (parts f t n)) → T (le (add f x y) (parts f t (m + n)))
  add-under x y m n h c d a b =
      subst (λ (z : Float). T (le (add f x y) z)) (add_parts m n h) (add-mono f x (parts f t m) y (parts f t n) c (parts-clear f t m) d (parts-clear f t n) a b)

  pub add-over : (x y : Float) (m n : ℕ) → m + n < 2 ^ prec f → T (clear x) → T (clear y) → T (le (parts f t m) x) → T (le (parts f t n) y) → T (le (parts f t (m + n)) (add f x y))
  add-over x y m n h c d a b =
      subst (λ (z : Float). T (le z (add f x y))) (add_parts m n h) (add-mono f (parts f t m) x (parts f t n) y (parts-clear f t m) c (parts-clear f t n) d a b)

  -- a value that is not too large grows where one part or more is added
  pub add-grows : (x y : Float) (limit : ℕ) → T (nonneg x) → T (clear y) → T (lt x (parts f t limit)) → limit < 2 ^ prec f → T (le (parts f t 1) y) → T (lt x (add f x y))
  add-grows x y limit p c under room step =
      let n = floor_of x in
      let few : n < limit = lt_of_not-le (λ (k : limit ≤ n). lt_not_le x (parts f t limit) under (floor-le x limit p room k)) in
      let next : n + 1 < 2 ^ prec f = omega arith in
      let next' : suc n < 2 ^ prec f = omega arith in
      order-lt-of-lt-of-le x (parts f t (suc n)) (add f x y) (floor-lt x p next')
      (subst (λ (k : ℕ). T (le (parts f t k) (add f x y))) (add-one n) (add-over x y n 1 next (nonneg→clear x p) c (floor-le x n p (N.lt_trans few room) (N.le_refl n)) step))
