-- A yes or no as a number. Definitions only.
use Rattle.std.specs.Prelude.{ℕ, Bool, cond}

-- 1 for yes, 0 for no
abbrev pub one_if : Bool → ℕ
one_if holds = cond holds 1 0
