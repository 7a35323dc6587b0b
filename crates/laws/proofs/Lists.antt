-- Laws of the entries that pass a test, and of a fold: a list that grows at its end, and a loop over a part of a list.
use mathlib.Core.Path.{◌≡◌, refl, sym, ap, ◌∙◌}
use mathlib.Core.Bool.{Bool, true, false, cond}
use mathlib.Core.List.{List, [], ◌∷◌, ◌++◌, map}
use Prim.Native.Nat.{ℕ, ◌+◌, ◌<◌, ◌≤◌}
use native.Mathlib.Numerals.{add-one}
use lib.ListN.{length, get_or}
use lib.Seq.{slice, slice-cons, slice_empty}
use Rattle.laws.specs.Lists.{passing, fold}
use Rattle.laws.proofs.Cases.{through-test}

-- ---- the entries that pass
module _ {A : Type 0} (test : A → Bool) where
  pub passing-more : (xs : List A) (x : A) → test x ≡ true → passing test (xs ++ (x ∷ [])) ≡ passing test xs ++ (x ∷ [])
  unfolding passing
  passing-more [] x e = rw e
  passing-more (y ∷ ys) x e = rw (passing-more ys x e) (either (test y) (passing test ys))
    where
      either : (b : Bool) (p : List A) → cond b (y ∷ (p ++ (x ∷ []))) (p ++ (x ∷ [])) ≡ cond b (y ∷ p) p ++ (x ∷ [])
      either true p = refl
      either false p = refl

  pub passing-less : (xs : List A) (x : A) → test x ≡ false → passing test (xs ++ (x ∷ [])) ≡ passing test xs
  unfolding passing
  passing-less [] x e = rw e
  passing-less (y ∷ ys) x e = rw (passing-less ys x e)

  pub passing-twice : (xs : List A) → passing test (passing test xs) ≡ passing test xs
  unfolding passing
  passing-twice [] = refl
  passing-twice (x ∷ xs) = either (passing-twice xs) (test x) refl
    where
      either : passing test (passing test xs) ≡ passing test xs → (b : Bool) → test x ≡ b → passing test (cond b (x ∷ passing test xs) (passing test xs)) ≡ cond b (x ∷ passing test xs) (passing test xs)
      either rest true e = rw (e, rest)
      either rest false e = rest

-- entries mapped and then tested are those tested as they would be mapped, and then mapped
pub passing-map : {A B : Type 0} (test : B → Bool) (f : A → B) (xs : List A) → passing test (map f xs) ≡ map f (passing (λ (x : A). test (f x)) xs)
unfolding passing
passing-map test f [] = refl
passing-map test f (x ∷ xs) = rw (passing-map test f xs) (sym (through-test (map f) (test (f x)) (x ∷ passing _ xs) (passing _ xs)))

-- two tests, in either order
pub passing-swap : {A : Type 0} (s t : A → Bool) (xs : List A) → passing s (passing t xs) ≡ passing t (passing s xs)
unfolding passing
passing-swap s t [] = refl
passing-swap s t (x ∷ xs) = either (passing-swap s t xs) (s x) refl (t x) refl
  where
    either : passing s (passing t xs) ≡ passing t (passing s xs) → (a : Bool) → s x ≡ a → (b : Bool) → t x ≡ b → passing s (cond b (x ∷ passing t xs) (passing t xs)) ≡ passing t (cond a (x ∷ passing s xs) (passing s xs))
    either rest true d true e = rw (d, e, rest)
    either rest true d false e = rw (e, rest)
    either rest false d true e = rw (d, rest)
    either rest false d false e = rest

-- ---- a fold
module _ {S A : Type 0} (step : S → A → S) where
  pub fold_more : (s : S) (xs : List A) (x : A) → fold step s (xs ++ (x ∷ [])) ≡ step (fold step s xs) x
  unfolding fold
  fold_more s [] x = refl
  fold_more s (y ∷ ys) x = fold_more (step s y) ys x

  -- A loop over the entries from j up to m has the invariant `fold step s (slice j m xs) ≡ t`, with t its result.
  pub fold-again : (xs : List A) (m j : ℕ) (d : A) {s s' : S} {t : S} → fold step s (slice j m xs) ≡ t → j < m → m ≤ length xs → s' ≡ step s (get_or xs j d) → fold step s' (slice (j + 1) m xs) ≡ t
  unfolding fold
  fold-again xs m j d {s} inv h k e = rw (e, add-one j) (sym (ap (fold step s) (slice-cons j m xs d h k)) ∙ inv)

  pub fold_end : (xs : List A) (m j : ℕ) {s t : S} → fold step s (slice j m xs) ≡ t → j ≡ m → s ≡ t
  unfolding fold
  fold_end xs m j {s} inv e = sym (ap (λ (k : ℕ). fold step s (slice k m xs)) e ∙ ap (fold step s) (slice_empty m xs)) ∙ inv
