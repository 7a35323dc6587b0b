-- What `root_of` means at an x that is finite and above zero: the nearest value, and the only one. Definitions and the statement.
use Rattle.std.specs.Prelude.{◌≡◌, ℕ, ◌+◌, ◌*◌, ◌<◌, T, Float}
use Rattle.std.specs.Float.{binary32}
use Rattle.std.specs.Float.Ieee.{fits, lt}
use Rattle.std.specs.Float.Ieee.Positive.{num, den, positive}
use Rattle.laws.specs.Values.{nonneg}
use Rattle.roots.specs.Root.{root_of}

-- twice the middle of y and r, as a fraction over den y * den r
abbrev pub twice_middle : Float → Float → ℕ
twice_middle y r = num y * den r + num r * den y

-- r is a binary32 value, and the nearest to √x of them all: √x lies on r's side of the middle of r and y, for any other value y, and never at the middle.
-- With m / d for twice the middle, m / d < 2 * √x is m * m * den x < 4 * num x * (d * d).
pub record NearestRoot (x r : Float) : Type 0 where
  pub not_below_zero : T (nonneg r)
  pub held : T (fits binary32 r)
  pub from_below : (y : Float) → T (fits binary32 y) → T (nonneg y) → T (lt y r) → twice_middle y r * twice_middle y r * den x < 4 * num x * (den y * den r * (den y * den r))
  pub from_above : (y : Float) → T (fits binary32 y) → T (nonneg y) → T (lt r y) → 4 * num x * (den y * den r * (den y * den r)) < twice_middle y r * twice_middle y r * den x

-- r is the nearest, and no other value is
pub record OnlyNearest (x r : Float) : Type 0 where
  pub nearest : NearestRoot x r
  pub only : (s : Float) → NearestRoot x s → s ≡ r

-- the theorem that proofs/Meaning.antt proves
abbrev pub RootIsNearest : Type 0
RootIsNearest = (x : Float) → T (fits binary32 x) → T (positive x) → OnlyNearest x (root_of x)
