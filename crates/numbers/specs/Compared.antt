-- What the comparisons of two floats and of two keys answer.
use Rattle.std.specs.Prelude.{◌≡◌, ℕ, Bool, true, false, cond, leb, Float, Some, None, refl}
use Rattle.std.specs.Float.Ieee.{lt, eq}
use Rattle.std.specs.declared.cmp.Ordering.TheVariants.{Less, Equal, Greater}
use Rattle.std.specs.Ordering.{float_partial_cmp, nat_cmp, is_lt, is_some_and, partial_lt, partial_le}
use Rattle.std.proofs.Common.{arith}
use Rattle.std.proofs.lemmas.Grind.{common_steps}

less_of : (l e g : Bool) → is_some_and is_lt (cond l (Some Less) (cond e (Some Equal) (cond g (Some Greater) None))) ≡ l
less_of true e g = refl
less_of false true g = refl
less_of false false true = refl
less_of false false false = refl

pub less-is : (x y : Float) → partial_lt float_partial_cmp x y ≡ lt x y
less-is x y = less_of (lt x y) (eq x y) (lt y x)

pub at-most-is : (j k : ℕ) → partial_le (λ x y. Some (nat_cmp x y)) j k ≡ leb j k
at-most-is j k = grind (arith, common_steps)
