-- Only for the code's own steps: no promise names it. Four resonators, each by itself. Definitions only.
use Rattle.std.specs.Prelude.{ℕ, Float}
use Rattle.filters.specs.Resonator.{resonated}
use Rattle.filters.specs.declared.resonator.Delay.{Delay}
use Rattle.filters.specs.declared.four.Four.{Four}

-- each of four alone, after n of its values
unfoldable pub four_alone : Four Float → (ℕ → Four Float) → ℕ → Four Delay
four_alone coefficients values n =
    record {
      a = resonated coefficients.a (λ (i : ℕ). (values i).a) n;
      b = resonated coefficients.b (λ (i : ℕ). (values i).b) n;
      c = resonated coefficients.c (λ (i : ℕ). (values i).c) n;
      d = resonated coefficients.d (λ (i : ℕ). (values i).d) n;
    }
