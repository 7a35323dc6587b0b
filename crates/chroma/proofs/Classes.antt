-- The pitch class of a float: a remainder by twelve, which is below twelve.
use Rattle.std.proofs.Common.{◌≡◌, ℕ, ◌<◌, ℤ, pos, negsuc, refl, arith}
use Rattle.std.specs.Int.{int_rem_euclid}
use lib.Ieee.{Float, to_signed}
use Rattle.chroma.specs.Shift.{remainder, class_of}

pub remainder-is : (z : ℤ) → int_rem_euclid z (pos 12) ≡ pos (remainder z)
remainder-is (pos n) = refl
remainder-is (negsuc n) = refl

remainder-below : (z : ℤ) → remainder z < 12
remainder-below (pos n) = omega arith
remainder-below (negsuc n) = omega arith

class-is-below : (x : Float) → class_of x < 12
unfolding class_of
class-is-below x = remainder-below (to_signed 31 x)

pub class-below : (x : Float) {class : ℕ} → class ≡ class_of x → class < 12
class-below x e = rw e (class-is-below x)
