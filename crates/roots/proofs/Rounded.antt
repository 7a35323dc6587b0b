-- What `root_of_units` is at n * 4 ^ (i + 1), for an n of 47 or 48 digits: the whole number r nearest to √n, times 2 ^ (i + 50) of the units 2 ^ -149.
use Prim.Native.Nat.{ℕ, suc, ◌+◌, ◌-◌, ◌*◌, ◌/◌, ◌^◌, ◌≤◌, ◌<◌}
use mathlib.Core.Path.{◌≡◌, sym, ap, ◌∙◌}
use mathlib.Core.Bool.{false}
use native.Mathlib.Nat.{lt_of_lt_of_le, lt_of_le_of_lt, mul_assoc, mul_comm, mul_left_comm, mul-add, add-mul, mul-one, one-mul, mul-pos, mul-le-mul, mul-le-mul_left, mul-le-mul_right, mul-lt-mul_of_pos_right, mul-div_cancel, pow-suc}
use native.Mathlib.Omega.{arith}
use lib.Dec.{lit<}
use lib.Pow.{pow-add, pow_pos, pow_mono}
use lib.Ieee.{binary32, units}
use lib.Ieee.Exact.{HasValue, units_val}
use lib.Ieee.Nearest.{closest, closest_same}
use Rattle.roots.specs.Root.{doubled_root, root_of_units}
use Rattle.roots.specs.inside.Steps.{Scaled, Nearest}
use Rattle.roots.proofs.Squares.{next-square}
use Rattle.roots.proofs.Doubled.{doubled-below, doubled-from, doubled-above}
use Rattle.laws.proofs.Closest.{closest-is, round-at}

-- ---- squares of numbers scaled by g, against n * (2 * g) ^ 2
regroup : (m g : ℕ) → m * g * (m * g) ≡ m * m * (g * g)
regroup m g = simp (mul_assoc, mul_left_comm)

abbrev pub scaled_up : ℕ → ℕ → ℕ
scaled_up n g = 4 * n * (g * g)

module _ (n g : ℕ) (G : 0 < g) where
  pub under-square : (m : ℕ) → 4 * n < m * m → scaled_up n g < m * g * (m * g)
  under-square m h = rw regroup (mul-lt-mul_of_pos_right h (mul-pos G G))

  pub over-square : (m : ℕ) → m * m < 4 * n → m * g * (m * g) < scaled_up n g
  over-square m h = rw regroup (mul-lt-mul_of_pos_right h (mul-pos G G))

  pub from-square : (m : ℕ) → m * m ≤ 4 * n → m * g * (m * g) ≤ scaled_up n g
  from-square m h = rw regroup (mul-le-mul_right (g * g) h)

-- ---- r - 1/2 < √n < r + 1/2, doubled and squared
odd-square : (p : ℕ) → (2 * p + 1) * (2 * p + 1) ≡ 4 * (p * p) + 4 * p + 1
odd-square p = simp (mul-add, add-mul, mul-one, one-mul, mul_assoc, mul_left_comm) (omega arith)

pub half-above : (n r : ℕ) → n ≤ r * r + r → 4 * n < (2 * r + 1) * (2 * r + 1)
half-above n r h = rw odd-square (omega arith)

pub half-below : (n p : ℕ) → (p + 1) * (p + 1) < n + (p + 1) → (2 * p + 1) * (2 * p + 1) < 4 * n
half-below n p h =
    let e = next-square p in
    rw odd-square (omega arith)

-- ---- the same bounds on a / (4 * g), and a / (4 * g) in units
to-nearest : (a g r p : ℕ) → 0 < g → p + 1 ≡ r → 2 * ((2 * p + 1) * g) < a → a < 2 * ((2 * r + 1) * g) → closest a (4 * g) ≡ r
to-nearest a g r p G e lo hi =
    let x : (2 * p + 1) * g ≡ 2 * (p * g) + g = simp (add-mul, mul_assoc, one-mul) in
    let y : (2 * r + 1) * g ≡ 2 * (r * g) + g = simp (add-mul, mul_assoc, one-mul) in
    let z : r * (4 * g) ≡ 4 * (r * g) = mul_left_comm r 4 g in
    let w : r * g ≡ p * g + g = rw (← e) (simp (add-mul, one-mul)) in
    closest-is a (4 * g) r (omega arith) (omega arith) (omega arith)

same-fraction : (a i : ℕ) → a * 2 ^ 149 * (4 * 2 ^ i) ≡ a * (2 ^ 101 * 2 ^ (i + 50))
same-fraction a i =
    let g = 2 ^ i in
    mul_assoc a (2 ^ 149) (4 * g)
    ∙ ap (λ (x : ℕ). a * x) (sym (mul_assoc (2 ^ 149) 4 g) ∙ mul_assoc (2 ^ 101) (2 ^ 50) g ∙ ap (λ (x : ℕ). 2 ^ 101 * x) (mul_comm (2 ^ 50) g ∙ sym (pow-add 2 i 50)))

in-units : (a : ℕ) → a * 2 ^ 149 / 2 ^ 101 ≡ a * 2 ^ 48
in-units a = ap (λ (x : ℕ). x / 2 ^ 101) (sym (mul_assoc a (2 ^ 48) (2 ^ 101))) ∙ mul-div_cancel (a * 2 ^ 48) (pow_pos 101)

leading : (a i : ℕ) → 2 * (2 ^ 24 * 2 ^ i) ≤ a → 2 ^ (i + 50 + 23) ≤ a * 2 ^ 149 / 2 ^ 101
leading a i h = rw (in-units a, pow-add 2 (i + 50) 23, pow-add 2 i 50) (omega arith)

no_more : (a i : ℕ) → a < 2 * (2 ^ 25 * 2 ^ i) → a * 2 ^ 149 / 2 ^ 101 < 2 ^ suc (i + 50 + 23)
no_more a i h = rw (in-units a, pow-suc 2 (i + 50 + 23), pow-add 2 (i + 50) 23, pow-add 2 i 50) (omega arith)

-- ---- the fraction that `round` is handed
module _ (n r i : ℕ) (s : Scaled n) (f : Nearest n r) (I : i ≤ 139) where
  abbrev g : ℕ
  g = 2 ^ i

  abbrev a : ℕ
  a = doubled_root (scaled_up n g)

  small : scaled_up n g < 4 ^ 164
  small =
      let b : 4 * n < 2 ^ 50 = omega arith in
      let m : g ≤ 2 ^ 139 = pow_mono I in
      lt_of_lt_of_le (mul-lt-mul_of_pos_right b (mul-pos (pow_pos i) (pow_pos i))) (mul-le-mul_left (2 ^ 50) (mul-le-mul m m))

  from_first : 2 * (2 ^ 24 * g) ≤ a
  from_first = doubled-from (scaled_up n g) small (2 ^ 24 * g) (from-square n g (pow_pos i) (2 ^ 24) (omega arith))

  below_last : a < 2 * (2 ^ 25 * g)
  below_last = doubled-below (scaled_up n g) small (2 ^ 25 * g) (under-square n g (pow_pos i) (2 ^ 25) (omega arith))

  below_half : a < 2 * ((2 * r + 1) * g)
  below_half = doubled-below (scaled_up n g) small ((2 * r + 1) * g) (under-square n g (pow_pos i) (2 * r + 1) (half-above n r f.under))

  above_half : (p : ℕ) → p + 1 ≡ r → 2 * ((2 * p + 1) * g) < a
  above_half p e = doubled-above (scaled_up n g) small ((2 * p + 1) * g) (over-square n g (pow_pos i) (2 * p + 1) (half-below n p (rw e f.above)))

  rounds-to : closest (a * 2 ^ 149) (2 ^ 101 * 2 ^ (i + 50)) ≡ r
  rounds-to =
      let e : r - 1 + 1 ≡ r = omega arith in
      closest_same (a * 2 ^ 149) (2 ^ 101 * 2 ^ (i + 50)) a (4 * g) (mul-pos (pow_pos 101) (pow_pos (i + 50))) (mul-pos (pow_pos 2) (pow_pos i)) (same-fraction a i)
      ∙ to-nearest a g r (r - 1) (pow_pos i) e (above_half (r - 1) e) below_half

  is-units : root_of_units (scaled_up n g) ≡ units binary32 false r (i + 50)
  unfolding root_of_units
  is-units = round-at a (2 ^ 101) (i + 50) r (leading a i from_first) (no_more a i below_last) rounds-to

  pub rounded-root : HasValue (root_of_units (scaled_up n g)) false (r * 2 ^ (i + 50)) (2 ^ 149)
  rounded-root = rw is-units (units_val binary32 false r (i + 50) (lt_of_le_of_lt (mul-le-mul f.most (pow_mono top)) (lit< tt)))
    where
      top : i + 50 ≤ 189
      top = omega arith
