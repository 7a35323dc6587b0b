-- Finite values that are not below zero, as fractions and in units: if y and r are u and w units, then their order is that of u and w, and twice their middle is u + w units.
use Prim.Native.Nat.{ℕ, ◌+◌, ◌*◌, ◌<◌}
use mathlib.Core.Path.{◌≡◌, sym, ap, ◌∙◌}
use native.Mathlib.Nat.{le_of_eq, lt_of_lt_of_le, lt_of_le_of_lt, lt_of_mul-lt-mul_right, mul_assoc, mul_comm, mul_left_comm, mul_right_comm, add-mul, mul-lt-mul_of_pos_right}
use lib.Ieee.{Float}
use lib.Ieee.Positive.{num, den}
use Rattle.roots.specs.Meaning.{twice_middle}

-- ---- a square against 4 * x: A / D is t units, and x = N / X is v units, each of size 1 / U
module _ (U A D X N t v : ℕ) (P : 0 < D * D * X) (a : A * U ≡ t * D) (x : N * U ≡ v * X) where
  left : A * A * X * (U * U) ≡ t * t * (D * D * X)
  left =
      let e : A * A * X * (U * U) ≡ A * U * (A * U) * X = simp (mul_assoc, mul_left_comm, mul_comm) in
      let f : t * D * (t * D) * X ≡ t * t * (D * D * X) = simp (mul_assoc, mul_left_comm, mul_comm) in
      e ∙ ap (λ (z : ℕ). z * z * X) a ∙ f

  right : 4 * N * (D * D) * (U * U) ≡ 4 * v * U * (D * D * X)
  right =
      let e : 4 * N * (D * D) * (U * U) ≡ 4 * (N * U) * (D * D) * U = simp (mul_assoc, mul_left_comm, mul_comm) in
      let f : 4 * (v * X) * (D * D) * U ≡ 4 * v * U * (D * D * X) = simp (mul_assoc, mul_left_comm, mul_comm) in
      e ∙ ap (λ (z : ℕ). 4 * z * (D * D) * U) x ∙ f

  pub square-below : t * t < 4 * v * U → A * A * X < 4 * N * (D * D)
  square-below h = lt_of_mul-lt-mul_right (U * U) (lt_of_le_of_lt (le_of_eq left) (lt_of_lt_of_le (mul-lt-mul_of_pos_right h P) (le_of_eq (sym right))))

  pub square_above : 4 * v * U < t * t → 4 * N * (D * D) < A * A * X
  square_above h = lt_of_mul-lt-mul_right (U * U) (lt_of_le_of_lt (le_of_eq right) (lt_of_lt_of_le (mul-lt-mul_of_pos_right h P) (le_of_eq (sym left))))

-- y and r are u and w units
module _ (U : ℕ) (y r : Float) (u w : ℕ) (hy : num y * U ≡ u * den y) (hr : num r * U ≡ w * den r) where
  lower : num y * den r * U ≡ u * (den y * den r)
  lower = mul_right_comm (num y) (den r) U ∙ ap (λ (z : ℕ). z * den r) hy ∙ mul_assoc u (den y) (den r)

  upper : num r * den y * U ≡ w * (den y * den r)
  upper = mul_right_comm (num r) (den y) U ∙ ap (λ (z : ℕ). z * den y) hr ∙ mul_assoc w (den r) (den y) ∙ ap (λ (z : ℕ). w * z) (mul_comm (den r) (den y))

  pub middle : twice_middle y r * U ≡ (u + w) * (den y * den r)
  middle = rw (add-mul (num y * den r) (num r * den y) U, lower, upper, add-mul u w (den y * den r))

  pub more-units : 0 < den y * den r → u < w → num y * den r < num r * den y
  more-units p h = lt_of_mul-lt-mul_right U (lt_of_le_of_lt (le_of_eq lower) (lt_of_lt_of_le (mul-lt-mul_of_pos_right h p) (le_of_eq (sym upper))))

  pub fewer-units : 0 < U → num y * den r < num r * den y → u < w
  fewer-units p h =
      lt_of_mul-lt-mul_right (den y * den r) (lt_of_le_of_lt (le_of_eq (sym lower)) (lt_of_lt_of_le (mul-lt-mul_of_pos_right h p) (le_of_eq upper)))
