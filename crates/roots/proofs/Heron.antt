-- Heron's step (q + n / q) / 2 towards the root of n: never below the whole root, and within the range that it started in.
use Prim.Native.Nat.{ℕ, suc, ◌+◌, ◌*◌, ◌/◌, ◌^◌, ◌≤◌, ◌<◌}
use mathlib.Core.Path.{sym, ap, subst, ◌∙◌}
use native.Mathlib.Nat.{le_trans, le_of_eq, le_of_lt, lt_of_lt_of_le, lt-suc_self, lt_of_not-le, le_dest, le_intro, add_comm, add_assoc, add_left_comm, mul_comm, mul-add, add-mul, add-suc, mul-le-mul_right, div-lt_iff_lt-mul}
use native.Mathlib.Decide.{dec_le}
use native.Mathlib.Omega.{arith}
use lib.Arith.{add-le_cancel_left}
use Rattle.roots.specs.inside.Steps.{Scaled, Guess}
use Rattle.roots.proofs.Squares.{root-from}

-- a * b twice is at most a * a + b * b: at b = a + d the difference is d * d
mean-at : (a d : ℕ) → a * (a + d) + a * (a + d) ≤ (a + d) * (a + d) + a * a
mean-at a d = le_intro (a * (a + d) + a * (a + d)) (d * d) (simp (mul-add, add-mul, mul_comm, add_assoc, add_comm, add_left_comm))

mean-of-le : (a b : ℕ) → a ≤ b → a * b + a * b ≤ b * b + a * a
mean-of-le a b h = subst (λ (x : ℕ). a * x + a * x ≤ x * x + a * a) (le_dest h).1 (mean-at a (le_dest h).0)

mean : (a b : ℕ) → a * b + a * b ≤ b * b + a * a
mean a b = either (dec_le a b)
  where
    either : Dec (a ≤ b) → a * b + a * b ≤ b * b + a * a
    either (yes h) = mean-of-le a b h
    either (no f) =
        le_trans (le_of_eq (ap (λ (z : ℕ). z + z) (mul_comm a b)))
        (le_trans (mean-of-le b a (le_of_lt (lt_of_not-le f))) (le_of_eq (add_comm (a * a) (b * b))))

-- n < (t + 1) * q and q + t < 2 * m give n < m * m, since q * q + (t + 1) * q ≤ 2 * m * q ≤ q * q + m * m
above : (n q t m : ℕ) → n < suc t * q → q + t < m + m → n < m * m
above n q t m next twice =
    lt_of_lt_of_le next
    (add-le_cancel_left (q * q)
    (le_trans (le_of_eq (sym (add-mul q (suc t) q) ∙ ap (λ (x : ℕ). x * q) (add-suc q t)))
    (le_trans (mul-le-mul_right q twice)
    (le_trans (le_of_eq (add-mul m m q)) (mean m q)))))

half-again : (x : ℕ) → x < (x / 2 + 1) + (x / 2 + 1)
half-again x = omega arith

pub step-above : (n q : ℕ) → 0 < q → n < ((q + n / q) / 2 + 1) * ((q + n / q) / 2 + 1)
step-above n q p = above n q (n / q) ((q + n / q) / 2 + 1) ((div-lt_iff_lt-mul p).0 (lt-suc_self (n / q))) (half-again (q + n / q))

positive : (q : ℕ) → Guess q → 0 < q
positive q g = omega arith

pub quotient-below : (n q : ℕ) → Scaled n → Guess q → n / q < 2 ^ 25
quotient-below n q s g = (div-lt_iff_lt-mul (positive q g)).1 (times n q s g)
  where
    times : (a b : ℕ) → Scaled a → Guess b → a < 2 ^ 25 * b
    times a b s g = omega arith

pub step-is-guess : (n q : ℕ) → Scaled n → Guess q → Guess ((q + n / q) / 2)
step-is-guess n q s g = record {
  least = root-from n ((q + n / q) / 2) (2 ^ 23) (step-above n q (positive q g)) s.least;
  most = between q (n / q) g.most (quotient-below n q s g);
}
  where
    between : (a b : ℕ) → a ≤ 2 ^ 25 → b < 2 ^ 25 → (a + b) / 2 ≤ 2 ^ 25
    between a b h k = omega arith
