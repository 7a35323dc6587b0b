-- One resonator, written from the Rust's `apply_window` and `goertzel_power_prewindowed`. Definitions and the statement.
use Rattle.std.specs.Prelude.{◌≡◌, ℕ, cond, Float}
use Rattle.std.specs.Float.{binary32}
use Rattle.std.specs.Float.Ieee.{add, sub, mul}
use Rattle.std.specs.Float.Ieee.Scale.{finite}
use Rattle.laws.specs.Turns.{turns}
use Rattle.laws.specs.Values.{plus_zero}
use Rattle.filters.specs.declared.resonator.Delay.{Delay}

-- a sample times its window value; one that is not finite counts as 0
unfoldable pub windowed_of : Float → Float → Float
windowed_of sample value = cond (finite sample) (mul binary32 sample value) plus_zero

-- one value more: x + coefficient * last - before
unfoldable pub stepped_of : Float → Float → Delay → Delay
stepped_of coefficient x d = record { last = sub binary32 (add binary32 x (mul binary32 coefficient d.last)) d.before; before = d.last }

-- before the first value
abbrev pub at_rest : Delay
at_rest = record { last = plus_zero; before = plus_zero }

-- after n of the values, from the first on
unfoldable pub resonated : Float → (ℕ → Float) → ℕ → Delay
resonated coefficient values n = turns (λ (i : ℕ) (d : Delay). stepped_of coefficient (values i) d) n 0 at_rest

-- the power that it ends with: before * before + last * last - coefficient * last * before
unfoldable pub power_of : Float → Delay → Float
power_of coefficient d =
    sub binary32 (add binary32 (mul binary32 d.before d.before) (mul binary32 d.last d.last)) (mul binary32 (mul binary32 coefficient d.last) d.before)

-- the Rust's `CqtTable::chroma_at` adds the squares in the other order, which is the same: the theorem that proofs/Squares.antt proves
abbrev pub EitherSquareFirst : Type 0
EitherSquareFirst =
    (coefficient : Float) (d : Delay) →
    power_of coefficient d ≡ sub binary32 (add binary32 (mul binary32 d.last d.last) (mul binary32 d.before d.before)) (mul binary32 (mul binary32 coefficient d.last) d.before)
