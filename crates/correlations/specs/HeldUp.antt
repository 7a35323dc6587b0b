-- What is said to be held up is what is held up. The statement.
use Rattle.std.specs.Prelude.{◌≡◌, true, false, Float}
use Rattle.laws.specs.Values.{epsilon}
use Rattle.laws.specs.Pick.{maximum_number}
use Rattle.correlations.specs.Correlation.{held_up}

-- where it is said, the divisor is epsilon and the root is something else; where not, the divisor is the root
pub record ToldRightly (root : Float) : Type 0 where
  pub replaced : held_up root ≡ true → maximum_number root epsilon ≡ epsilon
  pub another : held_up root ≡ true → root ≡ epsilon → ⊥
  pub stands : held_up root ≡ false → maximum_number root epsilon ≡ root

-- of any root
abbrev pub HeldUpTold : Type 0
HeldUpTold = (root : Float) → ToldRightly root
