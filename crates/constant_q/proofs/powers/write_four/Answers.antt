-- The rows lie on the track, and the callees are put together.
use Rattle.std.proofs.Common.{ℕ, length, refl, ap, ◌∙◌, arith}
use Rattle.constant_q.specs.declared.powers.PlacedLanes.{PlacedLanes}
use Rattle.constant_q.proofs.Spans.{four-lie}
use Rattle.constant_q.proofs.powers.write_four.Goals as goal

pub four_powers-powers-requires : goal.four_powers-powers-requires
four_powers-powers-requires c = let a = c.args in rw c.place_four-four.ensures (four-lie (length a.samples.now) a.centre a.lengths.now a.coefficients.now (length a.windows.now) c.requires.0 (λ (k : ℕ). omega (arith, c.type_inv.lengths k)) a.k c.requires.2)

pub returns : goal.returns
returns c = (c.put_four.ensures ∙ rw (c.four_powers-powers.ensures, c.place_four-four.ensures) refl, ap (λ (x : PlacedLanes). x.next) c.place_four-four.ensures)
