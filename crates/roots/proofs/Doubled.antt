-- `whole_root` is the whole part of the root, and `doubled_root n` lies above, at or below each even number as 2 * √n does.
use Prim.Native.Nat.{ℕ, zero, suc, ◌+◌, ◌*◌, ◌/◌, ◌^◌, ◌≤◌, ◌<◌, zero-le}
use mathlib.Core.Path.{◌≡◌, refl, sym}
use mathlib.Core.Bool.{Bool, true, false, not, cond}
use native.Mathlib.Nat.{lt_of_lt_of_le, le_of_eq, le_of_lt, zero-lt-suc, pow-suc, mul_assoc, mul_left_comm, div-lt_iff_lt-mul}
use native.Mathlib.Omega.{arith}
use lib.Dec.{T, leb, eqb, leb→le, nleb→lt, eqb→eq}
use Rattle.roots.specs.Root.{whole_root, doubled_root}
use Rattle.roots.specs.inside.Steps.{Floor}
use Rattle.roots.proofs.Squares.{less-of-squares, root_below, root-from, next-square}

-- ---- one digit more
double-square : (r : ℕ) → 2 * r * (2 * r) ≡ 4 * (r * r)
double-square r = simp (mul_assoc, mul_left_comm) (omega arith)

quarter-below : (d n : ℕ) → n < 4 ^ suc d → n / 4 < 4 ^ d
quarter-below d n h = (div-lt_iff_lt-mul (zero-lt-suc 3)).1 (lt_of_lt_of_le h (le_of_eq (pow-suc 4 d)))

one_more : (n r : ℕ) → Floor (n / 4) r → Floor n (cond (leb ((2 * r + 1) * (2 * r + 1)) n) (2 * r + 1) (2 * r))
one_more n r f = go (leb ((2 * r + 1) * (2 * r + 1)) n) (leb→le ((2 * r + 1) * (2 * r + 1)) n) (nleb→lt ((2 * r + 1) * (2 * r + 1)) n)
  where
    go : (b : Bool) → (T b → (2 * r + 1) * (2 * r + 1) ≤ n) → (T (not b) → n < (2 * r + 1) * (2 * r + 1)) → Floor n (cond b (2 * r + 1) (2 * r))
    go true t f' =
        let h = t tt in
        let a = next-square (2 * r + 1) in
        let b = next-square (2 * r) in
        let c = next-square r in
        let d = double-square r in
        let l = f.high in
        record { low = h; high = omega arith }
    go false t f' =
        let h = f' tt in
        let d = double-square r in
        let l = f.low in
        record { low = omega arith; high = h }

pub whole-root-is : (d n : ℕ) → n < 4 ^ d → Floor n (whole_root d n)
unfolding whole_root
whole-root-is zero n h = record { low = zero-le; high = h }
whole-root-is (suc d) n h = one_more n (whole_root d (n / 4)) (whole-root-is d (n / 4) (quarter-below d n h))

-- ---- the last digit of `doubled_root`, for any whole root q
abbrev with_digit : ℕ → ℕ → ℕ
with_digit n q = 2 * q + cond (eqb (q * q) n) 0 1

digit-below : (q m : ℕ) (b : Bool) → q < m → 2 * q + cond b 0 1 < 2 * m
digit-below q m true h = omega arith
digit-below q m false h = omega arith

digit-from : (q m : ℕ) (b : Bool) → m ≤ q → 2 * m ≤ 2 * q + cond b 0 1
digit-from q m true h = omega arith
digit-from q m false h = omega arith

-- where √n is above m, either q is, or q is m and the digit is 1
digit-above : (n q m : ℕ) (b : Bool) → (T b → q * q ≡ n) → m ≤ q → m * m < n → 2 * m < 2 * q + cond b 0 1
digit-above n q m true e l h = step m q (less-of-squares m q (lt_of_lt_of_le h (le_of_eq (sym (e tt)))))
  where
    step : (x y : ℕ) → x < y → 2 * x < 2 * y + 0
    step x y k = omega arith
digit-above n q m false e l h = omega arith

doubled-is : (n : ℕ) → doubled_root n ≡ with_digit n (whole_root 164 n)
unfolding doubled_root
doubled-is n = refl

module _ (n : ℕ) (small : n < 4 ^ 164) (m : ℕ) where
  pub doubled-below : n < m * m → doubled_root n < 2 * m
  doubled-below h =
      let q = whole_root 164 n in
      rw doubled-is (digit-below q m (eqb (q * q) n) (root_below n q m (whole-root-is 164 n small).low h))

  pub doubled-from : m * m ≤ n → 2 * m ≤ doubled_root n
  doubled-from h =
      let q = whole_root 164 n in
      rw doubled-is (digit-from q m (eqb (q * q) n) (root-from n q m (whole-root-is 164 n small).high h))

  pub doubled-above : m * m < n → 2 * m < doubled_root n
  doubled-above h =
      let q = whole_root 164 n in
      rw doubled-is (digit-above n q m (eqb (q * q) n) (eqb→eq (q * q) n) (root-from n q m (whole-root-is 164 n small).high (le_of_lt h)) h)
