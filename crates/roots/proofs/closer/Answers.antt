-- The laws of Heron's step give the bounds.
use native.Mathlib.Omega.{arith}
use Rattle.roots.proofs.Heron.{step-above, step-is-guess, quotient-below}
use Rattle.roots.proofs.closer.Goals as goal

pub overflow_add-result : goal.overflow_add-result
overflow_add-result c = omega (arith, quotient-below c.args.n c.args.q c.requires.0 c.requires.1)

pub returns : goal.returns
returns c =
    let n = c.args.n in
    let q = c.args.q in
    (step-is-guess n q c.requires.0 c.requires.1, step-above n q (omega arith))
