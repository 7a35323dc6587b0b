-- The two ends of the branch beyond 0.01 are the two branches of the definition. Assumes nothing.
use Rattle.std.proofs.Common.{refl, ap}
use lib.Ieee.{binary32, lt, of_bits}
use Rattle.laws.proofs.Table.{told}
use Rattle.chroma.specs.Shift.{retuned}
use Rattle.chroma.proofs.shift.retune_chroma.Goals as goal

pub returns-then-magnitude : goal.returns-then-magnitude
unfolding retuned of_bits
returns-then-magnitude c = rw (told (ap (lt (of_bits binary32 0x3c23_d70a)) c.magnitude.ensures) c.if-magnitude.true) c.shift_chroma.ensures

pub returns-else-magnitude : goal.returns-else-magnitude
unfolding retuned of_bits
returns-else-magnitude c = rw (told (ap (lt (of_bits binary32 0x3c23_d70a)) c.magnitude.ensures) c.if-magnitude.false) refl
