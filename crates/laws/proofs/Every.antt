-- A test that passes at every number below a bound passes at each: so a table's rule is computed once and used at each entry.
-- A loop that joins the test of i to what it knows so far has the invariant `sofar ≡ every test i`, or `sofar ≡ any_below test i`: `every_more` or `any-more` after a turn.
use mathlib.Core.Logic.{inl, inr}
use mathlib.Core.Path.{◌≡◌, sym, ap, subst, subst₂, ◌∙◌}
use mathlib.Core.Bool.{Bool, ◌&&◌, ◌||◌}
use mathlib.Core.List.{List, [], ◌∷◌, ◌++◌}
use Prim.Native.Nat.{ℕ, zero, suc, ◌+◌, ◌-◌, ◌<◌, ◌≤◌}
use native.Mathlib.Numerals.{add-one}
use native.Mathlib.Nat.{add-zero, not-suc-le-zero, eq-or-lt_of_le, le_of_suc-le-suc}
use native.Mathlib.Omega.{arith}
use lib.Dec.{T}
use lib.ListN.{length, get_or, length-append, get_or-append}
use lib.Seq.{get_or-append_seam}
use lib.Ieee.Fits.{and_l, and_r, and_i}
use Rattle.laws.specs.Every.{every, any_below, every_pair}
use Rattle.laws.proofs.Cases.{same_test, or_l, or_r, or_split}

pub each : (test : ℕ → Bool) (n : ℕ) → T (every test n) → (k : ℕ) → k < n → T (test k)
unfolding every
each test zero t k h = absurd (not-suc-le-zero h)
each test (suc n) t k h =
    elim (eq-or-lt_of_le (le_of_suc-le-suc h)) [
      | inl e ↦ subst (λ (j : ℕ). T (test j)) (sym e) (and_r (every test n) (test n) t)
      | inr l ↦ each test n (and_l (every test n) (test n) t) k l
    ]

pub every_of : (test : ℕ → Bool) (n : ℕ) → ((k : ℕ) → k < n → T (test k)) → T (every test n)
unfolding every
every_of test zero all = tt
every_of test (suc n) all = and_i (every test n) (test n) (every_of test n (λ (k : ℕ) (l : k < n). all k (omega arith))) (all n (omega arith))

pub every_more : (test : ℕ → Bool) (i : ℕ) {sofar : Bool} → sofar ≡ every test i → (sofar && test i) ≡ every test (i + 1)
unfolding every
every_more test i e = ap (λ (b : Bool). b && test i) e ∙ rw (add-one, every)

pub every-all : (test : ℕ → Bool) (i n : ℕ) {sofar : Bool} → sofar ≡ every test i → i ≡ n → sofar ≡ every test n
every-all test i n e h = e ∙ ap (every test) h

-- ---- any number below a bound
pub any-more : (test : ℕ → Bool) (i : ℕ) {sofar : Bool} → sofar ≡ any_below test i → (sofar || test i) ≡ any_below test (i + 1)
unfolding any_below
any-more test i e = ap (λ (b : Bool). b || test i) e ∙ rw (add-one, any_below)

pub any_of : (test : ℕ → Bool) (n k : ℕ) → k < n → T (test k) → T (any_below test n)
unfolding any_below
any_of test zero k h t = absurd (not-suc-le-zero h)
any_of test (suc n) k h t =
    elim (eq-or-lt_of_le (le_of_suc-le-suc h)) [
      | inl e ↦ or_r (any_below test n) (test n) (subst (λ (j : ℕ). T (test j)) e t)
      | inr l ↦ or_l (any_below test n) (test n) (any_of test n k l t)
    ]

pub any_at : (test : ℕ → Bool) (n : ℕ) → T (any_below test n) → (k : ℕ) × (k < n) × T (test k)
unfolding any_below
any_at test zero t = elim t [ ]
any_at test (suc n) t =
    elim (or_split (any_below test n) (test n) t) [
      | inl s ↦ let found = any_at test n s in (found.0, omega (arith, found.1), found.2)
      | inr s ↦ (n, omega arith, s)
    ]

-- two tests of which each passes wherever the other does, at some number of its own
pub any_same : (f g : ℕ → Bool) (m n : ℕ) → ((i : ℕ) → i < m → T (f i) → T (any_below g n)) → ((i : ℕ) → i < n → T (g i) → T (any_below f m)) → any_below f m ≡ any_below g n
any_same f g m n there back =
    same_test (any_below f m) (any_below g n)
    (λ (t : T (any_below f m)). let found = any_at f m t in there found.0 found.1 found.2)
    (λ (t : T (any_below g n)). let found = any_at g n t in back found.0 found.1 found.2)

-- what holds below n, and at n, holds below n + 1
pub and_last : (P : ℕ → Type 0) (n : ℕ) → ((j : ℕ) → j < n → P j) → P n → (j : ℕ) → j < suc n → P j
and_last P n before last j less = elim (eq-or-lt_of_le (le_of_suc-le-suc less)) [ inl e ↦ subst P (sym e) last | inr l ↦ before j l ]

-- ---- every entry with the next
module _ {A : Type 0} (test : A → A → Bool) (d : A) (xs : List A) (n : ℕ) where
  pub each-pair : T (every_pair test d xs n) → (k : ℕ) → k + 1 < n → T (test (get_or xs k d) (get_or xs (k + 1) d))
  unfolding every_pair
  each-pair t k h = each (λ (j : ℕ). test (get_or xs j d) (get_or xs (j + 1) d)) (n - 1) t k (omega arith)

  pub every-pair-of : ((k : ℕ) → k + 1 < n → T (test (get_or xs k d) (get_or xs (k + 1) d))) → T (every_pair test d xs n)
  unfolding every_pair
  every-pair-of all = every_of (λ (j : ℕ). test (get_or xs j d) (get_or xs (j + 1) d)) (n - 1) (λ (k : ℕ) (l : k < n - 1). all k (omega arith))

  -- what each hands to the next holds from the entry i on
  pub handed-on : (P : A → Type 0) → T (every_pair test d xs n) → ((x y : A) → T (test x y) → P x → P y) → (i k : ℕ) → i + k < n → P (get_or xs i d) → P (get_or xs (i + k) d)
  handed-on P t hands i zero h here = subst (λ (j : ℕ). P (get_or xs j d)) (sym (add-zero i)) here
  handed-on P t hands i (suc k) h here =
      let next : i + suc k ≡ i + k + 1 = omega arith in
      subst (λ (j : ℕ). P (get_or xs j d)) (sym next)
      (hands (get_or xs (i + k) d) (get_or xs (i + k + 1) d) (each-pair t (i + k) (omega arith)) (handed-on P t hands i k (omega arith) here))

-- ---- a list with one entry more
module _ {A : Type 0} (xs : List A) (x d : A) where
  entry-before : (i : ℕ) → i < length xs → get_or (xs ++ (x ∷ [])) i d ≡ get_or xs i d
  entry-before i h = get_or-append xs (x ∷ []) d i h

  entry-last : (i : ℕ) → i ≡ length xs → get_or (xs ++ (x ∷ [])) i d ≡ x
  entry-last i e = ap (λ (j : ℕ). get_or (xs ++ (x ∷ [])) j d) e ∙ get_or-append_seam xs x [] d

  pub each_more : (P : A → Type 0) → ((i : ℕ) → i < length xs → P (get_or xs i d)) → P x → (i : ℕ) → i < length (xs ++ (x ∷ [])) → P (get_or (xs ++ (x ∷ [])) i d)
  each_more P all here i h =
      let within : i ≤ length xs = omega (arith, h, length-append xs (x ∷ [])) in
      elim (eq-or-lt_of_le within) [
        | inl e ↦ subst P (sym (entry-last i e)) here
        | inr l ↦ subst P (sym (entry-before i l)) (all i l)
      ]

  pub each-pair-more : (P : A → A → Type 0) → ((i : ℕ) → i + 1 < length xs → P (get_or xs i d) (get_or xs (i + 1) d)) → ((i : ℕ) → i < length xs → P (get_or xs i d) x) → (i : ℕ) → i + 1 < length (xs ++ (x ∷ [])) → P (get_or (xs ++ (x ∷ [])) i d) (get_or (xs ++ (x ∷ [])) (i + 1) d)
  each-pair-more P pairs ends i h =
      let within : i + 1 ≤ length xs = omega (arith, h, length-append xs (x ∷ [])) in
      let there : i < length xs = omega arith in
      elim (eq-or-lt_of_le within) [
        | inl e ↦ subst₂ P (sym (entry-before i there)) (sym (entry-last (i + 1) e)) (ends i there)
        | inr l ↦ subst₂ P (sym (entry-before i there)) (sym (entry-before (i + 1) l)) (pairs i l)
      ]
