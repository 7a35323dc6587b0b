-- A fold over a slice whose closure stays as it is: its result, as a counted loop too, and where it joins a test to what it knows so far.
use mathlib.Core.Path.{◌≡◌, refl, sym, ap, ◌∙◌}
use mathlib.Core.Bool.{Bool, true, ◌&&◌}
use mathlib.Core.List.{List, [], ◌∷◌}
use Prim.Native.Nat.{ℕ, zero, suc, ◌≤◌}
use native.Mathlib.Numerals.{add-one}
use native.Mathlib.Omega.{arith}
use native.Mathlib.Nat.{le_refl}
use lib.ListN.{length, get_or, take}
use denote.Param.Members.{Mut, Called}
use denote.Ref.{Bor}
use Rattle.std.proofs.Common.{take_all}
use Rattle.std.specs.List.{fold, FoldsTo}
use Rattle.std.specs.Iterator.{Drains}
use Rattle.std.specs.declared.slice.Iter.{Iter}
use Rattle.std.specs.Slice.Iter.{iter_rest}
use Rattle.std.proofs.lemmas.Iterator.{YieldsList-from_slice}
use Rattle.std.proofs.lemmas.Fn.{fold_over, fronts}
use Rattle.std.proofs.lemmas.List.Sums.{fold_more, fold-append}
use Rattle.laws.specs.Every.{every, every_entry}
use Rattle.laws.specs.Turns.{turns}
use Rattle.laws.proofs.Turns.{turns-last}

module _ {F A C : Type 0} (g : Mut F (C × (Bor A × Unit {0})) C) (f : F) where
  -- a call gives the step, and leaves the closure as it was
  abbrev pub Steps : (C → A → C) → Type 0
  Steps step = (a : C) (x : Bor A) (b : C) (q : F) → Called g f (a, (x, tt)) b q → (b ≡ step a x.now) × (q ≡ f)

  -- what `fold` ensures of the calls that it makes
  abbrev pub Ran : Iter A → C → C → Type 0
  Ran s a r = (ys : List (Bor A)) × (q : F) × Drains fronts s ys × FoldsTo {P = F × C} (λ p x q. Called g p.0 (p.1, (x, tt)) q.1 q.0) (f, a) ys (q, r)

  pub folded : (step : C → A → C) {s : Iter A} (xs : List A) (a r : C) → Steps step → iter_rest s ≡ xs → Ran s a r → r ≡ fold step a xs
  folded step {s = s} xs a r h e ran =
      fold_over fronts (λ (y : Bor A). y.now) g (λ (ys : List A) (b : C). b ≡ fold step a ys) f
      (λ ys b x b' q i k. let told = h b x b' q k in (told.0 ∙ ap (λ (c : C). step c x.now) i ∙ sym (fold-append step a ys (x.now ∷ [])), told.1))
      s xs a r (YieldsList-from_slice xs e).runs refl ran

module _ {A S : Type 0} (step : S → A → S) (d : A) (a : S) (xs : List A) where
  -- the first n steps
  to : (n : ℕ) → n ≤ length xs → fold step a (take n xs) ≡ turns (λ (k : ℕ) (s : S). step s (get_or xs k d)) n 0 a
  unfolding turns
  to zero h = refl
  to (suc n) h =
      ap (λ (m : ℕ). fold step a (take m xs)) (sym (add-one n))
      ∙ fold_more step a xs n d (omega arith)
      ∙ ap (λ (s : S). step s (get_or xs n d)) (to n (omega arith))
      ∙ sym (turns-last (λ (k : ℕ) (s : S). step s (get_or xs k d)) n a)
      ∙ ap (λ (m : ℕ). turns (λ (k : ℕ) (s : S). step s (get_or xs k d)) m 0 a) (add-one n)

  pub fold-turns : fold step a xs ≡ turns (λ (k : ℕ) (s : S). step s (get_or xs k d)) (length xs) 0 a
  fold-turns = ap (fold step a) (sym (take_all (length xs) xs (le_refl (length xs)))) ∙ to (length xs) (omega arith)

module _ {A : Type 0} (test : A → Bool) (d : A) (xs : List A) where
  abbrev joined : ℕ → Bool → Bool
  joined k sofar = sofar && test (get_or xs k d)

  all : (n : ℕ) → turns joined n 0 true ≡ every (λ (k : ℕ). test (get_or xs k d)) n
  unfolding turns every
  all zero = refl
  all (suc n) = ap (λ (m : ℕ). turns joined m 0 true) (sym (add-one n)) ∙ turns-last joined n true ∙ ap (joined n) (all n)

  pub fold-every : fold (λ (sofar : Bool) (x : A). sofar && test x) true xs ≡ every_entry test d xs
  unfolding every_entry
  fold-every = fold-turns (λ (sofar : Bool) (x : A). sofar && test x) d true xs ∙ all (length xs)

-- what a fold that joins a test says of a slice
pub every-folded : {F A : Type 0} (g : Mut F (Bool × (Bor A × Unit {0})) Bool) (f : F) (test : A → Bool) (d : A) {s : Iter A} (xs : List A) (r : Bool) → Steps g f (λ (sofar : Bool) (x : A). sofar && test x) → iter_rest s ≡ xs → Ran g f s true r → r ≡ every_entry test d xs
every-folded g f test d xs r h e ran = folded g f (λ sofar x. sofar && test x) xs true r h e ran ∙ fold-every test d xs
