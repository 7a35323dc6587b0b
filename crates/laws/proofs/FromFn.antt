-- An array made by a closure from its places: where a call leaves the closure as it was and gives f k at place k, the array is the list of f.
use mathlib.Core.Path.{◌≡◌, sym, ap, subst, ◌∙◌}
use mathlib.Core.Logic.{inl, inr}
use mathlib.Core.List.{List}
use Prim.Native.Nat.{ℕ, zero, suc, ◌+◌, ◌<◌, ◌≤◌}
use native.Mathlib.Nat.{eq-or-lt_of_le}
use native.Mathlib.Omega.{arith}
use lib.ListN.{length, get_or}
use lib.Seq.{ext_get_or}
use denote.Param.Members.{Mut, Called}
use Rattle.std.specs.Array.{IsFromFnResult, IsFromFnResultFrom}
use Rattle.laws.specs.Front.{list}
use Rattle.laws.proofs.Front.{length-list, get_or-list}

module _ {F B : Type 0} (g : Mut F (ℕ × Unit {0}) B) (f : ℕ → B) (c : F) where
  -- of n calls from place i on
  entries : (ys : List B) (n i : ℕ) → ((j : ℕ) (y : B) (q : F) → j < i + n → Called g c (j, tt) y q → (y ≡ f j) × (q ≡ c)) → IsFromFnResultFrom g c ys i n → (k : ℕ) (d : B) → i ≤ k → k < i + n → get_or ys k d ≡ f k
  entries ys zero i h e k d low high = absurd (omega arith)
  entries ys (suc n) i h e k d low high =
      let told = h i e.1 e.0 (omega arith) e.3 in
      elim (eq-or-lt_of_le low) [
        | inl same ↦ ap (λ (j : ℕ). get_or ys j d) (sym same) ∙ e.2.1 d ∙ told.0 ∙ ap f same
        | inr above ↦ entries ys n (i + 1) (λ j y q l r. h j y q (omega arith) r) (subst (λ (p : F). IsFromFnResultFrom g p ys (i + 1) n) told.1 e.4) k d (omega arith) (omega arith)
      ]

  pub list-from_fn : (ys : List B) (n : ℕ) → ((j : ℕ) (y : B) (q : F) → j < n → Called g c (j, tt) y q → (y ≡ f j) × (q ≡ c)) → IsFromFnResult g c ys n → ys ≡ list f n
  list-from_fn ys n h e =
      ext_get_or (f 0) ys (list f n) (e.long ∙ sym (length-list f n)) (λ (k : ℕ) (l : k < length ys).
      entries ys n 0 (λ j y q m r. h j y q (omega arith) r) e.each k (f 0) (omega arith) (omega (arith, e.long)) ∙ sym (get_or-list f n k (f 0) (omega (arith, e.long))))
