-- A lent set that is true: what each of the three tests says.
use mathlib.Core.Path.{◌≡◌, refl, sym, ap, subst, ◌∙◌}
use mathlib.Core.Bool.{Bool, true, false, not, ◌||◌}
use mathlib.Core.List.{List, [], ◌∷◌}
use Prim.Native.Nat.{ℕ}
use lib.Dec.{T, eqb}
use lib.ListN.{length}
use borrow.Author.Tests.{eq-eqb, eqb-true, not-false}
use Rattle.std.specs.Cmp.Lexicographic.{pointwise}
use Rattle.std.proofs.lemmas.Bool.Decides.{Decides-eqb}
use Rattle.std.proofs.lemmas.Slice.Eq.{slice_eq-Decides}
use Rattle.laws.proofs.Cases.{same_test}
use Rattle.laws.proofs.Table.{none_of}
use Rattle.laws.specs.Every.{same_numbers}
use Rattle.set_places.specs.Places.{set_size, any_spoilt}
use Rattle.laws.proofs.Same.{same-is, same-own, same_of}
use Rattle.set_places.proofs.Zeros.{passed}
use Rattle.set_totals.specs.Summary.{summary_of, numbers_of}
use Rattle.set_calls.specs.Sets.{CardSet, untrue}

-- its size, its places, its numbers
pub record TrueSet (s : CardSet) : Type 0 where
  pub whole : length s.bytes ≡ set_size
  pub sound : any_spoilt s.bytes ≡ false
  pub summed : s.numbers ≡ numbers_of (summary_of s.bytes)

-- `==` of two slices of numbers
same-pointwise : (xs ys : List ℕ) → pointwise eqb xs ys ≡ same_numbers xs ys
same-pointwise xs ys =
    let decides = slice_eq-Decides Decides-eqb xs ys (pointwise eqb xs ys) refl in
    same_test (pointwise eqb xs ys) (same_numbers xs ys) (λ t. same_of xs ys (decides.0 (passed _ t))) (λ t. subst T (sym (decides.1 (same-is xs ys t))) tt)

module _ (s : CardSet) where
  -- the three tests
  abbrev sized : Bool
  sized = not (eqb (length s.bytes) set_size)

  abbrev differs : Bool
  differs = not (same_numbers s.numbers (numbers_of (summary_of s.bytes)))

  pub by_size : sized ≡ true → true ≡ untrue s
  unfolding untrue
  by_size e = sym (ap (λ (b : Bool). (b || any_spoilt s.bytes) || differs) e)

  by-content : sized ≡ false → any_spoilt s.bytes || differs ≡ untrue s
  unfolding untrue
  by-content e = sym (ap (λ (b : Bool). (b || any_spoilt s.bytes) || differs) e)

  pub by-spoilt : sized ≡ false → {spoilt : Bool} → spoilt ≡ any_spoilt s.bytes → spoilt ≡ true → spoilt ≡ untrue s
  by-spoilt e is holds = holds ∙ sym (ap (λ (b : Bool). b || differs) (sym is ∙ holds)) ∙ by-content e

  pub by-numbers : sized ≡ false → {spoilt : Bool} → spoilt ≡ any_spoilt s.bytes → spoilt ≡ false → {numbers : List ℕ} → numbers ≡ numbers_of (summary_of s.bytes) → not (pointwise eqb s.numbers numbers) ≡ untrue s
  by-numbers e is fails {numbers} own =
      ap not (same-pointwise s.numbers numbers ∙ ap (same_numbers s.numbers) own) ∙ sym (ap (λ (b : Bool). b || differs) (sym is ∙ fails)) ∙ by-content e

  pub true-set : untrue s ≡ false → TrueSet s
  unfolding untrue
  true-set e =
      let failed = none_of (sized ∷ any_spoilt s.bytes ∷ differs ∷ []) e in
      record {
        whole = eqb-true (length s.bytes) set_size (not-false (eqb (length s.bytes) set_size) (failed 0));
        sound = failed 1;
        summed = same-is s.numbers (numbers_of (summary_of s.bytes)) (subst T (sym (not-false (same_numbers s.numbers (numbers_of (summary_of s.bytes))) (failed 2))) tt);
      }

  pub of-true : TrueSet s → untrue s ≡ false
  unfolding untrue
  of-true t =
      all sized (any_spoilt s.bytes) differs (ap not (eq-eqb (length s.bytes) set_size t.whole)) t.sound
      (ap not (ap (λ (xs : List ℕ). same_numbers s.numbers xs) (sym t.summed) ∙ passed (same_numbers s.numbers s.numbers) (same-own s.numbers)))
    where
      all : (a b c : Bool) → a ≡ false → b ≡ false → c ≡ false → (a || b) || c ≡ false
      all a b c d e f = rw (d, e, f)
