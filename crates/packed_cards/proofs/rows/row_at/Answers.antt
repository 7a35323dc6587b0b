-- Each number fits a wider type.
use native.Mathlib.Omega.{arith}
use Rattle.packed_cards.proofs.rows.row_at.Goals as goal

pub overflow_cast-result : goal.overflow_cast-result
overflow_cast-result c = record { fits = omega (arith, (c.shared_slice_known-1.given c.args.i).fits) }

pub overflow_cast-result-2 : goal.overflow_cast-result-2
overflow_cast-result-2 c = record { fits = omega (arith, (c.shared_slice_known-2-1.given c.args.i).fits) }

pub overflow_cast-result-3 : goal.overflow_cast-result-3
overflow_cast-result-3 c = record { fits = omega (arith, (c.shared_slice_known-3-1.given c.args.i).fits) }
