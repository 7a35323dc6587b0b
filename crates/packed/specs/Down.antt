-- What a packed number says: the float's exact value times 1000, rounded down. The statement; proofs/Down.antt proves it.
use Rattle.std.specs.Prelude.{◌≡◌, false, ℕ, ◌+◌, ◌*◌, ◌≤◌, ◌<◌, T, Float, Option, Some}
use Rattle.std.specs.Float.Ieee.{lt}
use Rattle.std.specs.Float.Ieee.Scale.{finite}
use Rattle.std.specs.Float.Ieee.Positive.{num, den}
use Rattle.laws.specs.Values.{plus_zero}
use Rattle.packed.specs.Packing.{thousandths_of, milliseconds_of}

-- k ≤ x * n < k + 1, where x is finite, num x / den x in size and not below 0
pub record RoundedDown (x : Float) (n k : ℕ) : Type 0 where
  pub is_finite : T (finite x)
  pub from_zero : lt x plus_zero ≡ false
  pub reached : k * den x ≤ num x * n
  pub next_beyond : num x * n < (k + 1) * den x

-- a float is packed as k exactly where k is so many whole 1 / n of it, rounded down, and no more than the limit
pub record PacksDown (n limit : ℕ) (packed : Float → Option ℕ) : Type 0 where
  pub only : (x : Float) (k : ℕ) → packed x ≡ Some k → RoundedDown x n k × (k ≤ limit)
  pub whenever : (x : Float) (k : ℕ) → RoundedDown x n k → k ≤ limit → packed x ≡ Some k

-- both kinds of packed numbers are so
pub record PackedRoundDown : Type 0 where
  pub thousandths : PacksDown 1000 1000 thousandths_of
  pub milliseconds : (limit : ℕ) → PacksDown 1000 limit (λ (x : Float). milliseconds_of x limit)
