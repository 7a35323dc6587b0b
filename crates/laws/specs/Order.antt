-- The total order of floats, a number that carries it, and what both are. Definitions and the statement.
use Rattle.std.specs.Prelude.{◌≡◌, ◌⊎◌, Bool, true, false, not, ◌||◌, cond, ℕ, ◌+◌, ◌-◌, ◌*◌, T, ltb, leb, Float}
use Rattle.std.specs.Float.{nan, Format}
use Rattle.std.specs.Float.Ieee.{top, fits, is_nan, lt, to_bits}
use Rattle.laws.specs.Values.{negative, plus_zero, minus_zero}

-- IEEE 754 5.10 totalOrder, "x is at or before y": by value, -0 before +0, and the one NaN after all else
unfoldable pub total_order : Float → Float → Bool
total_order x y =
    cond (is_nan x) (is_nan y)
    (cond (is_nan y) true
    (cond (lt x y) true
    (cond (lt y x) false
    (negative x || not (negative y)))))

-- The order key of a value of the format f: its pattern above 2 ^ 31 (2 ^ 63 in binary64) where the sign is plus, turned round below that
-- where it is minus, and the largest number for the NaN.
unfoldable pub order_key : Format → Float → ℕ
order_key f x = cond (is_nan x) (2 * top f - 1) (cond (ltb (to_bits f x) (top f)) (to_bits f x + top f) (2 * top f - 1 - to_bits f x))

-- total_order is a total order of the values that f holds, goes by value where `<` decides, and the keys carry it
pub record OrdersAll (f : Format) : Type 0 where
  pub total : (x y : Float) → T (fits f x) → T (fits f y) → T (total_order x y) ⊎ T (total_order y x)
  pub antisymmetric : (x y : Float) → T (fits f x) → T (fits f y) → T (total_order x y) → T (total_order y x) → x ≡ y
  pub transitive : (x y z : Float) → T (fits f x) → T (fits f y) → T (fits f z) → T (total_order x y) → T (total_order y z) → T (total_order x z)
  pub by_value : (x y : Float) → T (lt x y) → (total_order x y ≡ true) × (total_order y x ≡ false)
  pub zeros : (total_order minus_zero plus_zero ≡ true) × (total_order plus_zero minus_zero ≡ false)
  pub nan_last : (x : Float) → (total_order x nan ≡ true) × (total_order nan x ≡ is_nan x)
  pub by_key : (x y : Float) → T (fits f x) → T (fits f y) → total_order x y ≡ leb (order_key f x) (order_key f y)
  pub known_by_key : (x y : Float) → T (fits f x) → T (fits f y) → order_key f x ≡ order_key f y → x ≡ y

-- the theorem that proofs/Total.antt proves
abbrev pub TotalOrder : Type 0
TotalOrder = (f : Format) → OrdersAll f
