-- The larger and the smaller of two floats, and a float held between two. Definitions and the statements.
use Rattle.std.specs.Prelude.{◌≡◌, ◌⊎◌, Bool, false, ◌&&◌, ◌||◌, cond, T, Float}
use Rattle.std.specs.Float.{nan, Format}
use Rattle.std.specs.Float.Ieee.{fits, lt, eq, is_nan}
use Rattle.laws.specs.Values.{negative}
use Rattle.laws.specs.Order.{total_order}

-- IEEE 754 9.6 maximumNumber: a NaN is passed over, and +0 is larger than -0.
-- It is y where x is a NaN or less than y, or where they are equal and x has the minus sign; no comparison holds with a NaN, so x stands where y is one.
unfoldable pub maximum_number : Float → Float → Float
maximum_number x y = cond (is_nan x || lt x y || (eq x y && negative x)) y x

-- IEEE 754 9.6 minimumNumber: a NaN is passed over, and -0 is smaller than +0
unfoldable pub minimum_number : Float → Float → Float
minimum_number x y = cond (is_nan x || lt y x || (eq x y && negative y)) y x

-- r is the last of x and y in an order, NaNs passed over: one of the two, a NaN only where both are, and each of the two that is a number is at or before it
pub record LastNumber (before : Float → Float → Bool) (x y r : Float) : Type 0 where
  pub one_of_two : (r ≡ x) ⊎ (r ≡ y)
  pub nan_only : r ≡ nan → (x ≡ nan) × (y ≡ nan)
  pub after_x : is_nan x ≡ false → T (before x r)
  pub after_y : is_nan y ≡ false → T (before y r)

-- r is the last, and for an x and a y that a format holds nothing else is
pub record OnlyLast (before : Float → Float → Bool) (x y r : Float) : Type 0 where
  pub last : LastNumber before x y r
  pub only : (f : Format) → T (fits f x) → T (fits f y) → (s : Float) → LastNumber before x y s → s ≡ r

-- of any two floats maximum_number is the last by total_order; proofs/Pick.antt proves it
abbrev pub MaximumIs : Type 0
MaximumIs = (x y : Float) → OnlyLast total_order x y (maximum_number x y)

-- and minimum_number the last by total_order turned round, which is the first
abbrev pub MinimumIs : Type 0
MinimumIs = (x y : Float) → OnlyLast (λ (a b : Float). total_order b a) x y (minimum_number x y)

-- Rust's `x.clamp(low, high)`, which keeps a NaN, and a zero's sign
unfoldable pub clamped_to : Float → Float → Float → Float
clamped_to low high x = cond (lt x low) low (cond (lt high x) high x)
