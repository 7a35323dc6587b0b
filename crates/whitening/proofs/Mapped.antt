-- An array mapped by a closure: where a call leaves the closure as it was and gives f of a value, the result is the list of f at each place.
use Rattle.std.proofs.Common.{◌≡◌, ℕ, zero, suc, ◌+◌, ◌<◌, ◌≤◌, List, get_or, sym, ap, subst, ◌∙◌, inl, inr, eq-or-lt_of_le, arith}
use lib.Seq.{ext_get_or}
use denote.Param.Members.{Mut, Called}
use Rattle.std.specs.Array.{IsMapOf, MapsFrom}
use Rattle.laws.specs.Front.{list}
use Rattle.laws.proofs.Front.{length-list, get_or-list}

module _ {F A B : Type 0} (g : Mut F (A × Unit {0}) B) (f : A → B) (c : F) (gives : (x : A) (y : B) (q : F) → Called g c (x, tt) y q → (y ≡ f x) × (q ≡ c)) (xs : List A) (ys : List B) (d : A) where
  -- of n calls from place i on
  entries : (n i : ℕ) → MapsFrom g c xs ys i n → (k : ℕ) (e : B) → i ≤ k → k < i + n → get_or ys k e ≡ f (get_or xs k d)
  entries zero i m k e low high = absurd (omega arith)
  entries (suc n) i m k e low high =
      let told = gives m.1 m.2 m.0 m.5 in
      elim (eq-or-lt_of_le low) [
        | inl same ↦ ap (λ (j : ℕ). get_or ys j e) (sym same) ∙ m.4.1 e ∙ told.0 ∙ ap f (sym (m.3.1 d) ∙ ap (λ (j : ℕ). get_or xs j d) same)
        | inr above ↦ entries n (i + 1) (subst (λ (p : F). MapsFrom g p xs ys (i + 1) n) told.1 m.6) k e (omega arith) (omega arith)
      ]

  pub list-map : (n : ℕ) → IsMapOf g c xs ys n → ys ≡ list (λ (i : ℕ). f (get_or xs i d)) n
  list-map n m =
      let at : ℕ → B = λ (i : ℕ). f (get_or xs i d) in
      ext_get_or (f d) ys (list at n) (m.long ∙ sym (length-list at n))
      (λ k l. entries n 0 m.each k (f d) (omega arith) (omega (arith, m.long)) ∙ sym (get_or-list at n k (f d) (omega (arith, m.long))))
