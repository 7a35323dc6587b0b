-- Thousandths and milliseconds of a float's exact value, rounded down: a finite float is m * up e / down e in size. Definitions only.
use Rattle.std.specs.Prelude.{ℕ, ◌*◌, ◌/◌, Bool, ◌&&◌, cond, leb, ltb, Float, Option, Some, None}
use Rattle.std.specs.Float.{nan, inf, fin}
use Rattle.std.specs.Float.Ieee.{up, down}

-- a number up to a limit
abbrev pub limited : ℕ → ℕ → Option ℕ
limited limit n = cond (leb n limit) (Some n) None

-- a float below 0
abbrev pub below_zero : Bool → ℕ → Bool
below_zero s m = s && ltb 0 m

-- how many whole 1 / n there are in a float, rounded down: up to a limit; in one below 0 there are none, and -0 is not below 0
abbrev pub whole_times : Float → ℕ → ℕ → Option ℕ
whole_times nan n limit = None
whole_times (inf s) n limit = None
whole_times (fin s m e) n limit = cond (below_zero s m) None (limited limit (m * up e * n / down e))

-- thousandths: from 0 to 1000
abbrev pub thousandths_of : Float → Option ℕ
thousandths_of x = whole_times x 1000 1000

-- milliseconds of seconds: from 0 to a limit
abbrev pub milliseconds_of : Float → ℕ → Option ℕ
milliseconds_of x limit = whole_times x 1000 limit
