-- A list's sum is the length of its joined windows.
use mathlib.Core.Path.{◌≡◌, refl, ap, sym, ◌∙◌}
use mathlib.Core.List.{List}
use Prim.Native.Nat.{ℕ, zero, suc, ◌+◌}
use native.Mathlib.Numerals.{add-one}
use lib.ListN.{length, get_or}
use Rattle.std.specs.List.{sum}
use Rattle.laws.specs.Turns.{turns}
use Rattle.laws.proofs.Turns.{turns-last}
use Rattle.laws.proofs.Folds.{fold-turns}
use Rattle.sheets.specs.Sheet.{joined_length}

module _ (xs : List ℕ) where
  abbrev added : ℕ → ℕ → ℕ
  added k s = s + get_or xs k 0

  so-far : (n : ℕ) → turns added n 0 0 ≡ joined_length xs n
  unfolding turns joined_length
  so-far zero = refl
  so-far (suc n) = ap (λ (m : ℕ). turns added m 0 0) (sym (add-one n)) ∙ turns-last added n 0 ∙ ap (added n) (so-far n)

  pub sum-joined : sum xs ≡ joined_length xs (length xs)
  sum-joined = fold-turns (λ (s x : ℕ). s + x) 0 0 xs ∙ so-far (length xs)
