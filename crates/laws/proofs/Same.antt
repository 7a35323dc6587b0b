-- Laws of two lists compared: they are the same list. A loop that joins `same_at` of i to what it knows so far has the invariant of `every`.
use mathlib.Core.Path.{◌≡◌, sym, ap, subst, ◌∙◌}
use mathlib.Core.Bool.{Bool, false, ◌&&◌}
use mathlib.Core.List.{List}
use Prim.Native.Nat.{ℕ}
use lib.Dec.{T, eqb, eqb→eq, eqb_refl}
use lib.Ieee.Fits.{and_l, and_r, and_i}
use lib.ListN.{length, get_or}
use lib.Seq.{ext_get_or}
use borrow.Author.Tests.{eq-eqb, ne_eqb}
use Rattle.laws.specs.Every.{every, same_numbers}
use Rattle.laws.proofs.Every.{each, every_of}

pub same-is : (xs ys : List ℕ) → T (same_numbers xs ys) → xs ≡ ys
unfolding same_numbers
same-is xs ys t =
    let long = eqb→eq (length xs) (length ys) (and_l (eqb (length xs) (length ys)) (every (λ (k : ℕ). eqb (get_or xs k 0) (get_or ys k 0)) (length xs)) t) in
    let entries = and_r (eqb (length xs) (length ys)) (every (λ (k : ℕ). eqb (get_or xs k 0) (get_or ys k 0)) (length xs)) t in
    ext_get_or 0 xs ys long (λ k l. eqb→eq (get_or xs k 0) (get_or ys k 0) (each (λ (j : ℕ). eqb (get_or xs j 0) (get_or ys j 0)) (length xs) entries k l))

pub same-own : (xs : List ℕ) → T (same_numbers xs xs)
unfolding same_numbers
same-own xs =
    and_i (eqb (length xs) (length xs)) (every (λ (k : ℕ). eqb (get_or xs k 0) (get_or xs k 0)) (length xs)) (eqb_refl (length xs))
    (every_of (λ (k : ℕ). eqb (get_or xs k 0) (get_or xs k 0)) (length xs) (λ k l. eqb_refl (get_or xs k 0)))

pub same_of : (xs ys : List ℕ) → xs ≡ ys → T (same_numbers xs ys)
same_of xs ys e = subst (λ (zs : List ℕ). T (same_numbers xs zs)) e (same-own xs)

-- a loop's test, and what it makes of lists that are as long as each other, or not
abbrev pub same_at : List ℕ → List ℕ → ℕ → Bool
same_at xs ys k = eqb (get_or xs k 0) (get_or ys k 0)

pub as_long : (xs ys : List ℕ) {all : Bool} → length xs ≡ length ys → all ≡ every (same_at xs ys) (length xs) → all ≡ same_numbers xs ys
unfolding same_numbers
as_long xs ys long e = e ∙ sym (ap (λ (b : Bool). b && every (same_at xs ys) (length xs)) (eq-eqb (length xs) (length ys) long))

pub not_as_long : (xs ys : List ℕ) → (length xs ≡ length ys → ⊥) → false ≡ same_numbers xs ys
unfolding same_numbers
not_as_long xs ys apart = sym (ap (λ (b : Bool). b && every (same_at xs ys) (length xs)) (ne_eqb (length xs) (length ys) apart))
