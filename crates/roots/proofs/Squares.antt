-- Squares of whole numbers: order, and the two sides of a whole root.
use Prim.Native.Nat.{ℕ, zero, suc, ◌+◌, ◌-◌, ◌*◌, ◌^◌, ◌≤◌, ◌<◌, zero-le}
use mathlib.Core.Path.{◌≡◌, sym, subst}
use native.Mathlib.Nat.{le_of_lt, lt_of_le_of_lt, lt_of_not-le, not-le_of_lt, not-suc-le-zero, zero-lt-suc, mul-le-mul, mul-le-mul_left, mul-lt-mul_of_pos_right, mul-add, add-mul, mul-one, one-mul}
use native.Mathlib.Omega.{arith}
use Rattle.roots.specs.inside.Steps.{Scaled, Floor, Nearest}

pub less-of-squares : (a b : ℕ) → a * a < b * b → a < b
less-of-squares a b h = lt_of_not-le (λ (g : b ≤ a). not-le_of_lt h (mul-le-mul g g))

pub squares-less : (a b : ℕ) → a < b → a * a < b * b
squares-less a b h = lt_of_le_of_lt (mul-le-mul_left a (le_of_lt h)) (mul-lt-mul_of_pos_right h (lt_of_le_of_lt zero-le h))

-- a whole root is below m where the number is below m * m
pub root_below : (n q m : ℕ) → q * q ≤ n → n < m * m → q < m
root_below n q m low h = less-of-squares q m (lt_of_le_of_lt low h)

-- and it is m at least where the number is m * m at least
pub root-from : (n q m : ℕ) → n < (q + 1) * (q + 1) → m * m ≤ n → m ≤ q
root-from n q m high h = step m q (less-of-squares m (q + 1) (lt_of_le_of_lt h high))
  where
    step : (a b : ℕ) → a < b + 1 → a ≤ b
    step a b l = omega arith

-- a number whose square is above another is above 0
pub square-pos : (n q : ℕ) → n < q * q → 0 < q
square-pos n zero h = absurd (not-suc-le-zero h)
square-pos n (suc k) h = zero-lt-suc k

-- so it is one more than another, and that is the next guess
pub one_less : (n q : ℕ) → n < q * q → n < (q - 1 + 1) * (q - 1 + 1)
one_less n q h = subst (λ (x : ℕ). n < x * x) (sym (again q (square-pos n q h))) h
  where
    again : (x : ℕ) → 0 < x → x - 1 + 1 ≡ x
    again x p = omega arith

-- ---- the nearest whole number to √n, from its whole part q
pub next-square : (q : ℕ) → (q + 1) * (q + 1) ≡ q * q + 2 * q + 1
next-square q = simp (mul-add, add-mul, mul-one, one-mul) (omega arith)

pub near-above : (n q : ℕ) → Scaled n → Floor n q → q < n - q * q → Nearest n (q + 1)
near-above n q s f h =
    let e = next-square q in
    let low = root-from n q (2 ^ 23) f.high s.least in
    let high = root_below n q (2 ^ 24) f.low s.below in
    let below = f.low in
    let above = f.high in
    record { above = omega arith; under = omega arith; least = omega arith; most = omega arith }

pub near-below : (n q : ℕ) → Scaled n → Floor n q → n - q * q ≤ q → Nearest n q
near-below n q s f h =
    let low = root-from n q (2 ^ 23) f.high s.least in
    let high = root_below n q (2 ^ 24) f.low s.below in
    let below = f.low in
    record { above = omega arith; under = omega arith; least = low; most = omega arith }
