-- r * 2 ^ k units, with r the whole number nearest to √n: any other value of the format lies so far off that √n * 2 ^ k is on this side of the middle.
use Prim.Native.Nat.{ℕ, suc, ◌+◌, ◌-◌, ◌*◌, ◌^◌, ◌≤◌, ◌<◌}
use mathlib.Core.Path.{◌≡◌, sym, ap, ◌∙◌}
use native.Mathlib.Nat.{le_trans, le_of_eq, le_of_lt, le_antisymm, lt_of_lt_of_le, lt_of_le_of_lt, lt_of_not-le, lt_of_mul-lt-mul_right, mul-le-mul, mul-le-mul_right, mul_assoc, add-mul, one-mul, suc-mul}
use native.Mathlib.Decide.{dec_le}
use native.Mathlib.Omega.{arith}
use lib.Pow.{pow_pos}
use Rattle.roots.specs.inside.Steps.{Scaled, Nearest}
use Rattle.roots.proofs.Squares.{squares-less}
use Rattle.roots.proofs.Rounded.{scaled_up, under-square, over-square, from-square, half-above, half-below}
use Rattle.roots.proofs.Grid.{multiple}

odd-times : (p g : ℕ) → (2 * p + 1) * g ≡ 2 * (p * g) + g
odd-times p g = simp (add-mul, mul_assoc, one-mul)

module _ (n r k d j : ℕ) (s : Scaled n) (f : Nearest n r) (few : d < 2 ^ 24) where
  abbrev g : ℕ
  g = 2 ^ k

  abbrev u : ℕ
  u = d * 2 ^ j

  abbrev w : ℕ
  w = r * g

  -- a value above: at least one more 2 ^ k
  pub neighbour-above : w < u → scaled_up n g < (u + w) * (u + w)
  neighbour-above h =
      let m = multiple d j k few (le_trans (mul-le-mul_right g f.least) (le_of_lt h)) in
      let t = m.0 in
      let l : r < t = lt_of_mul-lt-mul_right g (lt_of_lt_of_le h (le_of_eq (sym m.1))) in
      let far : suc r * g ≤ u = le_trans (mul-le-mul_right g l) (le_of_eq m.1) in
      let e = suc-mul r g in
      let e' = odd-times r g in
      let sum : (2 * r + 1) * g ≤ u + w = omega arith in
      lt_of_lt_of_le (under-square n g (pow_pos k) (2 * r + 1) (half-above n r f.under)) (mul-le-mul sum sum)

  -- a value below: at least one less 2 ^ k, or √n itself is at least r
  one_less : u ≤ (r - 1) * g → (u + w) * (u + w) < scaled_up n g
  one_less h =
      let p = r - 1 in
      let e : p + 1 ≡ r = omega (arith, f.least) in
      let x : w ≡ p * g + g = ap (λ (y : ℕ). y * g) (sym e) ∙ simp (add-mul, one-mul) in
      let y = odd-times p g in
      let sum : u + w ≤ (2 * p + 1) * g = omega arith in
      lt_of_le_of_lt (mul-le-mul sum sum) (over-square n g (pow_pos k) (2 * p + 1) (half-below n p (rw e f.above)))

  at_least : r ≡ 2 ^ 23 → u < w → (u + w) * (u + w) < scaled_up n g
  at_least e h =
      let x : w ≡ 2 ^ 23 * g = ap (λ (y : ℕ). y * g) e in
      let sum : u + w < 2 ^ 24 * g = omega arith in
      lt_of_lt_of_le (squares-less (u + w) (2 ^ 24 * g) sum) (from-square n g (pow_pos k) (2 ^ 24) (omega (arith, s.least)))

  pub neighbour-below : u < w → (u + w) * (u + w) < scaled_up n g
  neighbour-below h = go (dec_le (2 ^ 23 * g) u) (dec_le r (2 ^ 23))
    where
      before : (a b : ℕ) → a < b → a ≤ b - 1
      before a b l = omega arith

      go : Dec (2 ^ 23 * g ≤ u) → Dec (r ≤ 2 ^ 23) → (u + w) * (u + w) < scaled_up n g
      go (yes a) b =
          let m = multiple d j k few a in
          let l : m.0 < r = lt_of_mul-lt-mul_right g (lt_of_le_of_lt (le_of_eq m.1) h) in
          one_less (le_trans (le_of_eq (sym m.1)) (mul-le-mul_right g (before m.0 r l)))
      go (no a) (yes b) = at_least (le_antisymm b f.least) h
      go (no a) (no b) = one_less (le_of_lt (lt_of_lt_of_le (lt_of_not-le a) (mul-le-mul_right g (before (2 ^ 23) r (lt_of_not-le b)))))
