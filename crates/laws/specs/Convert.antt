-- A float at another format, and whole numbers, halves and finer steps as floats. Definitions and the statement.
use Rattle.std.specs.Prelude.{◌≡◌, ℕ, suc, ◌+◌, ◌-◌, ◌*◌, ◌%◌, ◌^◌, ◌≤◌, Bool, false, cond, T, ltb, Float}
use Rattle.std.specs.Bool.{beq}
use Rattle.std.specs.Float.{nan, inf, fin, Format}
use Rattle.std.specs.Float.Ieee.{prec, emax, up, down, fits, is_nan, round, add, div, to_bits}
use Rattle.std.specs.Float.Ieee.Scale.{finite}
use Rattle.std.specs.Float.Ieee.Positive.{num, den}
use Rattle.laws.specs.Values.{negative, two}

-- IEEE 754 5.4.2 convertFormat, to nearest, a tie to even: the exact value is rounded once, and a zero keeps its sign. Rust's `as f32`.
unfoldable pub converted : Format → Float → Float
converted f nan = nan
converted f (inf s) = inf s
converted f (fin s m e) = round f s (m * up e) (down e)

-- |a - b|
abbrev pub gap : ℕ → ℕ → ℕ
gap a b = a - b + (b - a)

-- |x - y| of two finite values, as a fraction over den x * den y: the sizes' difference where the signs are alike, and their sum where they are not
abbrev pub distance : Float → Float → ℕ
distance x y = cond (beq (negative x) (negative y)) (gap (num x * den y) (num y * den x)) (num x * den y + num y * den x)

-- the size from which on a value is out of the format's range: (2 - 2 ^ -prec) * 2 ^ emax, 2^128 - 2^103 for binary32
abbrev pub range_end : Format → ℕ
range_end f = 2 ^ suc (emax f) - 2 ^ (emax f - prec f)

-- IEEE 754 4.3.1 roundTiesToEven, of a finite x to a value r of the format f. r has x's sign, a zero too, and is an infinity exactly where x is out of range.
-- Where r is finite, no finite value y of the format is nearer to x: distance x r / den r is at most distance x y / den y.
-- Where another is as near, r's last digit is 0: its pattern is even.
pub record RoundsToEven (f : Format) (x r : Float) : Type 0 where
  pub held : T (fits f r)
  pub number : is_nan r ≡ false
  pub sign : negative r ≡ negative x
  pub in_range : finite r ≡ ltb (num x) (range_end f * den x)
  pub nearest : T (finite r) → (y : Float) → T (fits f y) → T (finite y) → distance x r * den y ≤ distance x y * den r
  pub ties_even : T (finite r) → (y : Float) → T (fits f y) → T (finite y) → (y ≡ r → ⊥) → distance x r * den y ≡ distance x y * den r → to_bits f r % 2 ≡ 0

-- what conversion to f means: of a finite x it is rounded so, and no other value is; an infinity stays itself, and a NaN a NaN
pub record Converts (f : Format) : Type 0 where
  pub rounds : (x : Float) → T (finite x) → RoundsToEven f x (converted f x)
  pub only : (x r : Float) → T (finite x) → RoundsToEven f x r → r ≡ converted f x
  pub infinity : (s : Bool) → converted f (inf s) ≡ inf s
  pub not_a_number : converted f nan ≡ nan

-- the theorem that proofs/Nearest.antt proves
abbrev pub Conversion : Type 0
Conversion = (f : Format) → Converts f

-- n / 2 ^ t: whole numbers at t = 0, Rust's `n as f64`, halves at t = 1, and finer steps
abbrev pub parts : Format → ℕ → ℕ → Float
parts f t n = round f false n (2 ^ t)

-- x / 2
abbrev pub half : Format → Float → Float
half f x = div f x two

-- Rust's f64::midpoint for values far from the overflow
abbrev pub midpoint : Format → Float → Float → Float
midpoint f a b = half f (add f a b)
