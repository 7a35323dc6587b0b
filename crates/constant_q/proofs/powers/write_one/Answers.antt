-- The row lies on the track, and the callees are put together.
use Rattle.std.proofs.Common.{ℕ, length, refl, ap, arith}
use Rattle.constant_q.specs.declared.powers.Placed.{Placed}
use Rattle.constant_q.proofs.Spans.{lane_lies}
use Rattle.constant_q.proofs.powers.write_one.Goals as goal

pub lane_power-requires : goal.lane_power-requires
lane_power-requires c = let a = c.args in rw c.place-placed.ensures (lane_lies (length a.samples.now) a.centre a.lengths.now a.coefficients.now (length a.windows.now) c.requires.0 (λ (k : ℕ). omega (arith, c.type_inv.lengths k)) a.k c.requires.2)

pub returns : goal.returns
returns c = (rw (c.lane_power.ensures, c.place-placed.ensures) refl, ap (λ (x : Placed). x.next) c.place-placed.ensures)
