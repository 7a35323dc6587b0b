-- Floats by sign and kind, over the values of lib.Ieee: one NaN, which has no sign. Definitions only.
use Rattle.std.specs.Prelude.{Bool, false, true, not, pos, T, Float}
use Rattle.std.specs.Float.{nan, inf, fin, Format, binary32}
use Rattle.std.specs.Float.Ieee.{emax, fits, lt, of_bits}

-- IEEE 754 5.7.2 isSignMinus: -0 has the minus sign too
abbrev pub negative : Float → Bool
negative nan = false
negative (inf s) = s
negative (fin s m e) = s

-- IEEE 754 5.5.1 abs
unfoldable pub magnitude_of : Float → Float
magnitude_of nan = nan
magnitude_of (inf s) = inf false
magnitude_of (fin s m e) = fin false m e

-- no NaN
abbrev pub ordered : Float → Bool
ordered nan = false
ordered (inf s) = true
ordered (fin s m e) = true

-- no NaN, and the sign plus: +0, what is above it, and +∞
abbrev pub clear : Float → Bool
clear nan = false
clear (inf s) = not s
clear (fin s m e) = not s

-- finite, and the sign plus
abbrev pub nonneg : Float → Bool
nonneg nan = false
nonneg (inf s) = false
nonneg (fin s m e) = not s

-- +0, where an accumulator written `0.0` starts
abbrev pub plus_zero : Float
plus_zero = fin false 0 (pos 0)

-- -0, where Rust's `sum` starts
abbrev pub minus_zero : Float
minus_zero = fin true 0 (pos 0)

-- 1.0
abbrev pub one : Float
one = fin false 1 (pos 0)

-- 2.0
abbrev pub two : Float
two = fin false 1 (pos 1)

-- 0.5
abbrev pub a_half : Float
a_half = of_bits binary32 0x3f00_0000

-- 2^-23, Rust's f32::EPSILON
abbrev pub epsilon : Float
epsilon = of_bits binary32 0x3400_0000

-- the format f holds x, which is finite and has the sign plus
pub record Held (f : Format) (x : Float) : Type 0 where
  pub in_format : T (fits f x)
  pub at_least_zero : T (nonneg x)

-- x is below 2 ^ emax, so that twice x is below the overflow
abbrev pub small : Format → Float → Bool
small f x = lt x (fin false 1 (pos (emax f)))

-- such a value, far from the overflow
pub record Modest (f : Format) (x : Float) : Type 0 where
  pub held : Held f x
  pub low_enough : T (small f x)
