-- std's number of a bool is the definition's.
use mathlib.Core.Path.{◌≡◌, refl}
use mathlib.Core.Bool.{Bool, true, false}
use mir.Val.{bool_byte}
use Rattle.numbers.specs.Flags.{one_if}

pub from-bool : (holds : Bool) → bool_byte holds ≡ one_if holds
from-bool true = refl
from-bool false = refl
