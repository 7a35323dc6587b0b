-- Laws of sums: one term more, terms that are the same, terms up to a limit, one that is changed.
use mathlib.Core.Path.{◌≡◌, refl, ap, ap₂}
use mathlib.Core.Logic.{inl, inr}
use Prim.Native.Nat.{ℕ, zero, suc, ◌+◌, ◌*◌, ◌<◌, ◌≤◌}
use native.Mathlib.Nat.{not-suc-le-zero, le_of_suc-le-suc, eq-or-lt_of_le}
use native.Mathlib.Numerals.{add-one}
use native.Mathlib.Omega.{arith}
use Rattle.laws.specs.Sums.{sum_below}

pub sum-none : (f : ℕ → ℕ) → sum_below f 0 ≡ 0
unfolding sum_below
sum-none f = refl

pub sum_more : (f : ℕ → ℕ) (n : ℕ) → sum_below f (n + 1) ≡ sum_below f n + f n
unfolding sum_below
sum_more f n = rw (add-one, sum_below)

pub sum_same : (f g : ℕ → ℕ) (n : ℕ) → ((k : ℕ) → k < n → f k ≡ g k) → sum_below f n ≡ sum_below g n
unfolding sum_below
sum_same f g zero e = refl
sum_same f g (suc n) e = ap₂ (λ (a b : ℕ). a + b) (sum_same f g n (λ k l. e k (omega (arith, l)))) (e n (omega arith))

-- terms up to a limit
pub sum-limited : (f : ℕ → ℕ) (limit n : ℕ) → ((k : ℕ) → k < n → f k ≤ limit) → sum_below f n ≤ n * limit
unfolding sum_below
sum-limited f limit zero low = omega arith
sum-limited f limit (suc n) low =
    let before = sum-limited f limit n (λ k l. low k (omega (arith, l))) in
    let last = low n (omega arith) in
    omega (arith, before, last)

-- one term changed
pub sum-changed : (f g : ℕ → ℕ) (n i : ℕ) → i < n → ((k : ℕ) → (k ≡ i → ⊥) → f k ≡ g k) → sum_below f n + g i ≡ sum_below g n + f i
unfolding sum_below
sum-changed f g zero i h others = absurd (not-suc-le-zero h)
sum-changed f g (suc n) i h others =
    elim (eq-or-lt_of_le (le_of_suc-le-suc h)) [
      | inl e ↦
          let before = sum_same f g n (λ k l. others k (λ same. omega (arith, l, same, e))) in
          let last-f = ap f e in
          let last-g = ap g e in
          omega (arith, before, last-f, last-g)
      | inr l ↦
          let before = sum-changed f g n i l others in
          let last = others n (λ same. omega (arith, l, same)) in
          omega (arith, before, last)
    ]

-- one term is no more than all
pub term-within : (f : ℕ → ℕ) (n i : ℕ) → i < n → f i ≤ sum_below f n
unfolding sum_below
term-within f zero i h = absurd (not-suc-le-zero h)
term-within f (suc n) i h =
    elim (eq-or-lt_of_le (le_of_suc-le-suc h)) [
      | inl e ↦ let last = ap f e in omega (arith, last)
      | inr l ↦ let before = term-within f n i l in omega (arith, before)
    ]
