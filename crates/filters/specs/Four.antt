-- Four resonators side by side, written from the Rust's `goertzel_power_batch_4`. Definitions only.
use Rattle.std.specs.Prelude.{ℕ, ◌+◌, List, set, Float}
use Rattle.laws.specs.Turns.{turns}
use Rattle.filters.specs.Resonator.{stepped_of, at_rest}
use Rattle.filters.specs.declared.four.Four.{Four}
use Rattle.filters.specs.declared.resonator.Delay.{Delay}

-- the same value for each
abbrev pub same_for_four : {A : Type 0} → A → Four A
same_for_four x = record { a = x; b = x; c = x; d = x }

-- before the first value
abbrev pub rest_of_four : Four Delay
rest_of_four = same_for_four at_rest

-- one value more for each
unfoldable pub stepped_four : Four Float → Four Float → Four Delay → Four Delay
stepped_four coefficients x delays =
    record {
      a = stepped_of coefficients.a x.a delays.a;
      b = stepped_of coefficients.b x.b delays.b;
      c = stepped_of coefficients.c x.c delays.c;
      d = stepped_of coefficients.d x.d delays.d;
    }

-- all four after n of their values, from the first on
unfoldable pub four_resonated : Four Float → (ℕ → Four Float) → ℕ → Four Delay
four_resonated coefficients values n = turns (λ (i : ℕ) (delays : Four Delay). stepped_four coefficients (values i) delays) n 0 rest_of_four

-- four numbers in their places, from k on
abbrev pub put_four : Four Float → ℕ → List Float → List Float
put_four values k room = set (set (set (set room k values.a) (k + 1) values.b) (k + 2) values.c) (k + 3) values.d
