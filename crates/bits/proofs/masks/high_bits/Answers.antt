-- From 64 places on nothing is left.
use mathlib.Core.Path.{sym}
use native.Mathlib.Nat.{div-eq_of_lt, lt_of_lt_of_le}
use lib.Pow.{pow_mono}
use Rattle.bits.proofs.masks.high_bits.Goals as goal

pub returns-else-width-lt64 : goal.returns-else-width-lt64
returns-else-width-lt64 c = sym (div-eq_of_lt (lt_of_lt_of_le c.ranges.number.fits (pow_mono {i = 64} c.if-width-lt64.false)))
