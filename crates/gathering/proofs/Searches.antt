-- A search that may begin behind its end finds the larger of both where all are tried.
use mathlib.Core.Path.{◌≡◌, refl, ◌∙◌}
use mathlib.Core.Logic.{inl, inr}
use mathlib.Core.Bool.{Bool}
use Prim.Native.Nat.{ℕ, ◌-◌, ◌≤◌}
use native.Mathlib.Omega.{arith}
use Prim.Native.Nat.{max}
use Rattle.laws.specs.First.{first}
use Rattle.laws.proofs.Cases.{lt-or-ge}
use Rattle.laws.proofs.First.{first-end}

pub first-end-from : (test : ℕ → Bool) (n from i : ℕ) {result : ℕ} → first test (n - i) i ≡ first test (n - from) from → n ≤ i → (from ≤ n → i ≤ n) → result ≡ max from n → result ≡ first test (n - from) from
first-end-from test n from i {result} inv past inside e =
    elim (lt-or-ge from n) [
      | inl less ↦ let end : result ≡ i = omega (arith, e, past, less, inside (omega (arith, less))) in end ∙ first-end test n i inv past
      | inr behind ↦ let end : result ≡ from = omega (arith, e, behind) in end ∙ first-end test n from refl behind
    ]
