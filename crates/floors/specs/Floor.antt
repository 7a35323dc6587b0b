-- The whole number at or below a float. Definitions and the statement.
use Rattle.std.specs.Prelude.{◌≡◌, ℕ, ◌*◌, ◌/◌, ◌%◌, Bool, true, false, cond, T, ℤ, pos, negsuc, ◌==◌, Float}
use Rattle.std.specs.Float.{nan, inf, fin, binary32}
use Rattle.std.specs.Float.Ieee.{up, down, fits, le, of_int}
use Rattle.std.specs.Float.Ieee.Scale.{finite}
use Rattle.laws.specs.Values.{negative}

-- the whole number at or below q + a fraction of (0, 1), and at or below -(q + that fraction), which is -(q + 1)
abbrev pub down_to : Bool → ℕ → ℤ
down_to false q = pos q
down_to true q = negsuc q

-- IEEE 754 5.9 roundToIntegralTowardNegative: the size m * 2 ^ e is the fraction m * up e / down e. Where it is whole, x is the result, -0 included.
unfoldable pub floored : Float → Float
floored nan = nan
floored (inf s) = inf s
floored (fin s m e) = cond (m * up e % down e == 0) (fin s m e) (of_int binary32 (down_to s (m * up e / down e)))

-- y is a whole number, of any size
abbrev pub is_whole : Float → Bool
is_whole nan = false
is_whole (inf s) = false
is_whole (fin s m e) = m * up e % down e == 0

-- r is a binary32 value, the largest whole number that is not above x, and has x's sign: so a zero has it too
pub record LargestWhole (x r : Float) : Type 0 where
  pub held : T (fits binary32 r)
  pub whole : T (is_whole r)
  pub not_above : T (le r x)
  pub largest : (y : Float) → T (is_whole y) → T (le y x) → T (le y r)
  pub sign : negative r ≡ negative x

-- r is the largest, and no other value is
pub record OnlyLargest (x r : Float) : Type 0 where
  pub largest_whole : LargestWhole x r
  pub only : (s : Float) → LargestWhole x s → s ≡ r

-- the theorem that proofs/Largest.antt proves
abbrev pub FloorIsLargest : Type 0
FloorIsLargest = (x : Float) → T (fits binary32 x) → T (finite x) → OnlyLargest x (floored x)
