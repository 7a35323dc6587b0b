-- A root is at or above epsilon, and then stands, or it is not, and then epsilon does.
use mathlib.Core.Path.{◌≡◌, refl, sym, ap, subst, ◌∙◌}
use mathlib.Core.Bool.{true, false, not}
use lib.Dec.{T}
use lib.Ieee.{Float, nan, inf, fin, lt, le, eq, is_nan, of_bits}
use lib.Ieee.Bits.{is_true}
use borrow.Author.Tests.{not-false}
use Rattle.laws.specs.Values.{plus_zero, epsilon}
use Rattle.laws.specs.Pick.{maximum_number}
use Rattle.laws.proofs.Order.{le_trans, not-le→lt, apart-le}
use Rattle.laws.proofs.Pick.{max-left}
use Rattle.correlations.specs.Correlation.{held_up}
use Rattle.correlations.specs.HeldUp.{HeldUpTold}

root_stands : (root : Float) → T (le epsilon root) → maximum_number root epsilon ≡ root
unfolding maximum_number is_nan lt le eq of_bits
root_stands nan h = absurd h
root_stands (inf true) h = absurd h
root_stands (inf false) h = refl
root_stands (fin true m e) h = absurd (le_trans epsilon (fin true m e) plus_zero h (apart-le (fin true m e) plus_zero tt tt))
root_stands (fin false m e) h = max-left (fin false m e) epsilon tt h

root-replaced : (root : Float) → T (not (le epsilon root)) → maximum_number root epsilon ≡ epsilon
unfolding maximum_number is_nan of_bits
root-replaced nan h = refl
root-replaced (inf s) h = rw (is_true (lt (inf s) epsilon) (not-le→lt (inf s) epsilon tt tt h))
root-replaced (fin s m e) h = rw (is_true (lt (fin s m e) epsilon) (not-le→lt (fin s m e) epsilon tt tt h))

-- epsilon itself is not held up
floor-stands : T (not (held_up epsilon))
unfolding held_up le lt eq of_bits
floor-stands = tt

pub held-up-told : HeldUpTold
unfolding held_up
held-up-told root = record {
  replaced = λ h. root-replaced root (subst T (sym h) tt);
  another = λ h e. subst T (ap not (sym (ap held_up e) ∙ h)) floor-stands;
  stands = λ h. root_stands root (subst T (sym (not-false (le epsilon root) h)) tt);
}
