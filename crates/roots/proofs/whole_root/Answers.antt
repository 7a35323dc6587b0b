-- The invariant: √n is below q + 1, and q fits. The measure is q.
use Prim.Native.Nat.{◌<◌}
use native.Mathlib.Nat.{lt_of_le_of_lt, mul-le-mul}
use borrow.Author.Rules.{rules}
use native.Mathlib.Omega.{arith}
use lib.Dec.{lit<}
use Rattle.roots.proofs.Squares.{square-pos, one_less}
use Rattle.roots.proofs.whole_root.Goals as goal

pub overflow_mul-q : goal.overflow_mul-q
overflow_mul-q c = record { fits = lt_of_le_of_lt (mul-le-mul c.loop-q.invariant.1 c.loop-q.invariant.1) (lit< tt) }

pub overflow_sub-q : goal.overflow_sub-q
overflow_sub-q c =
    let above_zero : 0 < c.loop-q.q = square-pos _ c.loop-q.q c.loop-q-test.true in
    above_zero

pub loop-q-smaller : goal.loop-q-smaller
loop-q-smaller c =
    let above_zero : 0 < c.loop-q.q = square-pos _ c.loop-q.q c.loop-q-test.true in
    omega (arith, above_zero)

pub loop-q-preserved : goal.loop-q-preserved
loop-q-preserved c = (one_less _ c.loop-q.q c.loop-q-test.true, omega arith)

pub returns : goal.returns
returns c = record { low = search rules; high = search rules }
