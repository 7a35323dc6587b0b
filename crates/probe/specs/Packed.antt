-- A packed number as one number. Definitions only.
use Rattle.std.specs.Prelude.{ℕ, Option, unwrap_or}

-- the number; the largest one of 64 bits for none
abbrev pub number_of : Option ℕ → ℕ
number_of packed = unwrap_or packed 0xffff_ffff_ffff_ffff
