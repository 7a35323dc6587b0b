-- A resonator by one value more, and four side by side as each alone.
use mathlib.Core.Path.{◌≡◌, refl, sym, ap, ◌∙◌}
use Prim.Native.Nat.{ℕ, suc, ◌+◌}
use native.Mathlib.Numerals.{add-one}
use lib.Ieee.{Float}
use Rattle.laws.specs.Turns.{turns}
use Rattle.laws.proofs.Turns.{turns-last, turns-keep}
use Rattle.filters.specs.Resonator.{stepped_of, at_rest, resonated}
use Rattle.filters.specs.Four.{rest_of_four, stepped_four, four_resonated}
use Rattle.filters.specs.inside.Alone.{four_alone}
use Rattle.filters.specs.declared.resonator.Delay.{Delay}
use Rattle.filters.specs.declared.four.Four.{Four}

pub resonated-more : (coefficient : Float) (values : ℕ → Float) (n : ℕ) → stepped_of coefficient (values n) (resonated coefficient values n) ≡ resonated coefficient values (n + 1)
unfolding resonated
resonated-more coefficient values n = sym (turns-last (λ (i : ℕ) (d : Delay). stepped_of coefficient (values i) d) n at_rest)

module _ (coefficients : Four Float) (values : ℕ → Four Float) where
  each : {a a' b b' c c' d d' : Delay} → a ≡ a' → b ≡ b' → c ≡ c' → d ≡ d' → ◌≡◌ {A = Four Delay} (record { a = a; b = b; c = c; d = d }) (record { a = a'; b = b'; c = c'; d = d' })
  each p q r s = rw (p, q, r, s)

  pub four-more : (n : ℕ) → stepped_four coefficients (values n) (four_alone coefficients values n) ≡ four_alone coefficients values (n + 1)
  unfolding stepped_four four_alone
  four-more n =
      each (resonated-more coefficients.a (λ (i : ℕ). (values i).a) n) (resonated-more coefficients.b (λ (i : ℕ). (values i).b) n) (resonated-more coefficients.c (λ (i : ℕ). (values i).c) n)
      (resonated-more coefficients.d (λ (i : ℕ). (values i).d) n)

  rest-alone : rest_of_four ≡ four_alone coefficients values 0
  unfolding four_alone resonated turns
  rest-alone = refl

  one_more : (i : ℕ) (delays : Four Delay) → delays ≡ four_alone coefficients values i → stepped_four coefficients (values i) delays ≡ four_alone coefficients values (suc i)
  one_more i delays e = ap (stepped_four coefficients (values i)) e ∙ four-more i ∙ ap (four_alone coefficients values) (add-one i)

  -- side by side, each ends as it would alone
  pub four-alone : (n : ℕ) → four_resonated coefficients values n ≡ four_alone coefficients values n
  unfolding four_resonated
  four-alone n = turns-keep (λ (i : ℕ) (delays : Four Delay). delays ≡ four_alone coefficients values i) (λ (i : ℕ) (delays : Four Delay). stepped_four coefficients (values i) delays) rest_of_four rest-alone one_more n
