-- Rounding a fraction to the nearest whole number, by its remainder or by its bounds, and `round` at a fraction whose leading digit is known.
use Prim.Native.Nat.{ℕ, zero, suc, ◌+◌, ◌-◌, ◌*◌, ◌/◌, ◌%◌, ◌^◌, ◌≤◌, ◌<◌, compare, Ordering}
use mathlib.Core.Path.{◌≡◌, refl, sym, ap, subst, ◌∙◌}
use mathlib.Core.Bool.{not, false}
use native.Mathlib.Nat.{mod-eq_of_lt, div-eq_of_lt, le_antisymm, le_of_suc-le-suc, not-le_of_lt, lt_of_mul-lt-mul_right, suc-mul, mod-lt, div-add-mod', add-zero, add-mul, one-mul}
use native.Mathlib.Omega.{arith}
use lib.Arith.{lt_of_le-ne}
use lib.Dec.{T, is_le, compare_is_eq, eqb, leb→le, nleb→lt, eqb→eq, eqb_refl}
use lib.Ieee.{binary32, nearest, units, round}
use lib.Ieee.Fits.{round_is}
use lib.Ieee.Nearest.{closest}
use Rattle.laws.proofs.Patterns.{size_exact}

-- ---- what `compare` says
abbrev Compared : Ordering → ℕ → ℕ → Type 0
Compared Ordering.lt a b = a < b
Compared Ordering.eq a b = a ≡ b
Compared Ordering.gt a b = b < a

compared : (a b : ℕ) → Compared (compare a b) a b
compared a b = go (compare a b) (leb→le a b) (nleb→lt a b) (eqb→eq a b) (λ (e : a ≡ b). subst (λ (x : ℕ). T (eqb a x)) e (eqb_refl a))
  where
    go : (o : Ordering) → (T (is_le o) → a ≤ b) → (T (not (is_le o)) → b < a) → (T (compare_is_eq o) → a ≡ b) → (a ≡ b → T (compare_is_eq o)) → Compared o a b
    go Ordering.lt h k e n = lt_of_le-ne (h tt) n
    go Ordering.eq h k e n = e tt
    go Ordering.gt h k e n = k tt

-- ---- by how twice the remainder compares
module _ (q a b : ℕ) where
  nearest-under : a < b → nearest q (compare a b) ≡ q
  nearest-under h = go (compare a b) (compared a b)
    where
      go : (o : Ordering) → Compared o a b → nearest q o ≡ q
      go Ordering.lt c = refl
      go Ordering.eq c = absurd (omega arith)
      go Ordering.gt c = absurd (omega arith)

  nearest-over : b < a → nearest q (compare a b) ≡ suc q
  nearest-over h = go (compare a b) (compared a b)
    where
      go : (o : Ordering) → Compared o a b → nearest q o ≡ suc q
      go Ordering.lt c = absurd (omega arith)
      go Ordering.eq c = absurd (omega arith)
      go Ordering.gt c = refl

  nearest-tie : a ≡ b → nearest q (compare a b) ≡ q + q % 2
  nearest-tie h = go (compare a b) (compared a b)
    where
      go : (o : Ordering) → Compared o a b → nearest q o ≡ q + q % 2
      go Ordering.lt c = absurd (omega arith)
      go Ordering.eq c = refl
      go Ordering.gt c = absurd (omega arith)

pub closest-under : (a b : ℕ) → a % b * 2 < b → closest a b ≡ a / b
closest-under a b h = nearest-under (a / b) (a % b * 2) b h

pub closest-over : (a b : ℕ) → b < a % b * 2 → closest a b ≡ suc (a / b)
closest-over a b h = nearest-over (a / b) (a % b * 2) b h

pub closest-tie : (a b : ℕ) → a % b * 2 ≡ b → closest a b ≡ a / b + a / b % 2
closest-tie a b h = nearest-tie (a / b) (a % b * 2) b h

-- less than a half
pub closest-none : (a b : ℕ) → a * 2 < b → closest a b ≡ 0
closest-none a b h =
    let l : a < b = omega arith in
    closest-under a b (subst (λ (r : ℕ). r * 2 < b) (sym (mod-eq_of_lt l)) h) ∙ div-eq_of_lt l

-- ---- by bounds on twice the fraction
cancel : (x y b : ℕ) → x * b < y * b → x < y
cancel x y b h = lt_of_mul-lt-mul_right b h

-- w is the whole part, and t / b the rest
module _ (b r w t : ℕ) (T : t < b) (lo : r * b * 2 < (w * b + t) * 2 + b) (hi : (w * b + t) * 2 < r * b * 2 + b) where
  nearest-is : (o : Ordering) → Compared o (t * 2) b → nearest w o ≡ r
  nearest-is Ordering.lt c =
      let s = suc-mul w b in
      let s' = suc-mul r b in
      le_antisymm (le_of_suc-le-suc (cancel w (suc r) b (omega arith))) (le_of_suc-le-suc (cancel r (suc w) b (omega arith)))
  nearest-is Ordering.eq c =
      let s = suc-mul w b in
      let u : w < r = cancel w r b (omega arith) in
      let v : r < suc w = cancel r (suc w) b (omega arith) in
      absurd (not-le_of_lt v u)
  nearest-is Ordering.gt c =
      let s = suc-mul w b in
      let s' = suc-mul (suc w) b in
      le_antisymm (cancel w r b (omega arith)) (le_of_suc-le-suc (cancel r (suc (suc w)) b (omega arith)))

pub closest-is : (a b r : ℕ) → 0 < b → r * b * 2 < a * 2 + b → a * 2 < r * b * 2 + b → closest a b ≡ r
closest-is a b r B lo hi =
    let e : a / b * b + a % b ≡ a = div-add-mod' a b in
    nearest-is b r (a / b) (a % b) (mod-lt a B) (rw e lo) (rw e hi) (compare (a % b * 2) b) (compared (a % b * 2) b)

-- ---- how near it is: within a half, and even where it is just a half away
pub record Near (n u q : ℕ) : Type 0 where
  pub lower : q * u * 2 ≤ n * 2 + u
  pub upper : n * 2 ≤ q * u * 2 + u
  pub lower_even : q * u * 2 ≡ n * 2 + u → q % 2 ≡ 0
  pub upper_even : n * 2 ≡ q * u * 2 + u → q % 2 ≡ 0

-- w is the whole part, and t / u the rest
module _ (n u w t : ℕ) (U : 0 < u) (h : w * u + t ≡ n) where
  tie-near : (z : ℕ) → t * 2 ≡ u → w % 2 ≡ z → Near n u (w + z)
  tie-near zero c e = rw add-zero (record { lower = omega arith; upper = omega arith; lower_even = λ _. e; upper_even = λ _. e })
  tie-near (suc zero) c e =
      let s : (w + 1) * u ≡ w * u + u = add-mul w 1 u ∙ ap (λ (x : ℕ). w * u + x) (one-mul u) in
      let even : (w + 1) % 2 ≡ 0 = omega arith in
      record { lower = omega arith; upper = omega arith; lower_even = λ _. even; upper_even = λ _. even }
  tie-near (suc (suc z)) c e = absurd (omega arith)

  near_by : (o : Ordering) → Compared o (t * 2) u → t < u → Near n u (nearest w o)
  near_by Ordering.lt c r = record { lower = omega arith; upper = omega arith; lower_even = λ (e : w * u * 2 ≡ n * 2 + u). absurd (omega arith); upper_even = λ (e : n * 2 ≡ w * u * 2 + u). absurd (omega arith) }
  near_by Ordering.eq c r = tie-near (w % 2) c refl
  near_by Ordering.gt c r =
      let s = suc-mul w u in
      record { lower = omega arith; upper = omega arith; lower_even = λ (e : suc w * u * 2 ≡ n * 2 + u). absurd (omega arith); upper_even = λ (e : n * 2 ≡ suc w * u * 2 + u). absurd (omega arith) }

pub closest-near : (n u : ℕ) → 0 < u → Near n u (closest n u)
closest-near n u U = near_by n u (n / u) (n % u) U (div-add-mod' n u) (compare (n % u * 2) u) (compared (n % u * 2) u) (mod-lt n U)

-- ---- `round` at a fraction of 24 + k digits before the point, in units of 2 ^ -149: it drops k of them
pub round-at : (a c k r : ℕ) → 2 ^ (k + 23) ≤ a * 2 ^ 149 / c → a * 2 ^ 149 / c < 2 ^ suc (k + 23) → closest (a * 2 ^ 149) (c * 2 ^ k) ≡ r → round binary32 false a c ≡ units binary32 false r k
round-at a c k r lo hi e =
    round_is binary32 false a c
    ∙ ap (λ (j : ℕ). units binary32 false (closest (a * 2 ^ 149) (c * 2 ^ j)) j) (drops k _ (size_exact (k + 23) (suc (k + 23)) (a * 2 ^ 149 / c) refl lo hi))
    ∙ ap (λ (q : ℕ). units binary32 false q k) e
  where
    drops : (j z : ℕ) → z ≡ suc (j + 23) → z - 24 ≡ j
    drops j z h = omega arith
