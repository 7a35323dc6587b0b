-- What the proof of a search cites. A loop up to n has the invariant `first test (n - i) i ≡ r`, with r its result:
-- `first-start` where it begins, `first-again` after a turn, `first_out` where the test passes, `first-end` where all are tried.
use mathlib.Core.Path.{◌≡◌, refl, sym, ap, ◌∙◌}
use mathlib.Core.Logic.{◌⊎◌, inl, inr}
use mathlib.Core.Bool.{Bool, true, false, cond}
use Prim.Native.Nat.{ℕ, zero, suc, ◌+◌, ◌-◌, ◌<◌, ◌≤◌}
use native.Mathlib.Nat.{add-zero, not-suc-le-zero, le_of_suc-le-suc, eq-or-lt_of_le}
use native.Mathlib.Omega.{arith}
use Rattle.laws.specs.First.{first}
use Rattle.laws.proofs.Cases.{by-test, lt-or-ge}
use Rattle.laws.proofs.Turns.{one_less, none_left, all_left}

pub first_start : (test : ℕ → Bool) (n : ℕ) → first test (n - 0) 0 ≡ first test n 0
first_start test n = ap (λ (k : ℕ). first test k 0) (all_left n)

one-turn : (test : ℕ → Bool) (n i : ℕ) → i < n → first test (n - i) i ≡ cond (test i) i (first test (n - (i + 1)) (i + 1))
unfolding first
one-turn test n i h = ap (λ (k : ℕ). first test k i) (one_less n i h)

pub first-again : (test : ℕ → Bool) (n i : ℕ) {r : ℕ} → first test (n - i) i ≡ r → i < n → test i ≡ false → first test (n - (i + 1)) (i + 1) ≡ r
first-again test n i inv h e = sym (one-turn test n i h ∙ ap (λ (b : Bool). cond b i (first test (n - (i + 1)) (i + 1))) e) ∙ inv

pub first_out : (test : ℕ → Bool) (n i : ℕ) {r : ℕ} → first test (n - i) i ≡ r → i < n → test i ≡ true → i ≡ r
first_out test n i inv h e = sym (one-turn test n i h ∙ ap (λ (b : Bool). cond b i (first test (n - (i + 1)) (i + 1))) e) ∙ inv

pub first-end : (test : ℕ → Bool) (n i : ℕ) {r : ℕ} → first test (n - i) i ≡ r → n ≤ i → i ≡ r
unfolding first
first-end test n i inv h = sym (ap (λ (k : ℕ). first test k i) (none_left n i h)) ∙ inv

-- where a search came to the end, every test failed
pub first-none : (test : ℕ → Bool) (n i : ℕ) → i + n ≤ first test n i → (k : ℕ) → k < n → test (i + k) ≡ false
unfolding first
first-none test zero i h k less = absurd (not-suc-le-zero less)
first-none test (suc n) i h k less = either (test i) refl h (λ far j. first-none test n (i + 1) far j) k less
  where
    either : (b : Bool) → test i ≡ b → i + suc n ≤ cond b i (first test n (i + 1)) → (i + 1 + n ≤ first test n (i + 1) → (j : ℕ) → j < n → test (i + 1 + j) ≡ false) → (k : ℕ) → k < suc n → test (i + k) ≡ false
    either true e far go k less = absurd (omega arith)
    either false e far go zero less = ap test (add-zero i) ∙ e
    either false e far go (suc k) less =
        let next : i + suc k ≡ i + 1 + k = omega arith in
        ap test next ∙ go (omega (arith, far)) k (le_of_suc-le-suc less)

-- every number before the first that passes fails
pub first-before : (test : ℕ → Bool) (n i k : ℕ) → i ≤ k → k < first test n i → test k ≡ false
unfolding first
first-before test zero i k low less = absurd (omega arith)
first-before test (suc n) i k low less = either (test i) refl less (λ above short. first-before test n (i + 1) k above short)
  where
    either : (b : Bool) → test i ≡ b → k < cond b i (first test n (i + 1)) → (i + 1 ≤ k → k < first test n (i + 1) → test k ≡ false) → test k ≡ false
    either true e short go = absurd (omega arith)
    either false e short go = elim (eq-or-lt_of_le low) [ inl same ↦ ap test (sym same) ∙ e | inr above ↦ go (omega arith) short ]

-- a search ends with a number that passes, or behind all of them
pub first-or-end : (test : ℕ → Bool) (n i : ℕ) → (test (first test n i) ≡ true) ⊎ (first test n i ≡ i + n)
unfolding first
first-or-end test zero i = inr (sym (add-zero i))
first-or-end test (suc n) i = either (test i) refl (first-or-end test n (i + 1))
  where
    either : (b : Bool) → test i ≡ b → (test (first test n (i + 1)) ≡ true) ⊎ (first test n (i + 1) ≡ i + 1 + n) → (test (cond b i (first test n (i + 1))) ≡ true) ⊎ (cond b i (first test n (i + 1)) ≡ i + suc n)
    either true e rest = inl e
    either false e (inl passes) = inl passes
    either false e (inr none) = inr (omega (arith, none))

-- and so behind all that fail from the start on
pub first-behind : (test : ℕ → Bool) (n k : ℕ) → k ≤ n → ((i : ℕ) → i < k → test i ≡ false) → k ≤ first test n 0
first-behind test n k inside fail = elim (lt-or-ge (first test n 0) k) [
  | inl before ↦ absurd (ended (first-or-end test n 0) before)
  | inr behind ↦ behind
]
  where
    ended : (test (first test n 0) ≡ true) ⊎ (first test n 0 ≡ 0 + n) → first test n 0 < k → ⊥
    ended (inl passes) before = let z : ◌≡◌ {A = ℕ} 0 1 = cc (passes, fail (first test n 0) before) in omega arith
    ended (inr all) before = omega (arith, all, inside, before)

-- a search stays within its bounds
pub first-within : (test : ℕ → Bool) (n i : ℕ) → first test n i ≤ i + n
unfolding first
first-within test zero i = omega arith
first-within test (suc n) i = by-test (λ (k : ℕ). k ≤ i + suc n) (test i) (λ _. omega arith) (λ _. let rest = first-within test n (i + 1) in omega (arith, rest))

pub first-from : (test : ℕ → Bool) (n i : ℕ) → i ≤ first test n i
unfolding first
first-from test zero i = omega arith
first-from test (suc n) i = by-test (λ (k : ℕ). i ≤ k) (test i) (λ _. omega arith) (λ _. let rest = first-from test n (i + 1) in omega (arith, rest))

-- two tests that agree find the same
pub first-same : (test other : ℕ → Bool) (n i : ℕ) → ((k : ℕ) → k < n → test (i + k) ≡ other (i + k)) → first test n i ≡ first other n i
unfolding first
first-same test other zero i same = refl
first-same test other (suc n) i same =
    let here : test i ≡ other i = ap test (sym (add-zero i)) ∙ same 0 (omega arith) ∙ ap other (add-zero i) in
    let rest : first test n (i + 1) ≡ first other n (i + 1) = first-same test other n (i + 1) (λ k less. let next : i + 1 + k ≡ i + (k + 1) = omega arith in ap test next ∙ same (k + 1) (omega (arith, less)) ∙ ap other (sym next)) in
    rw (here, rest)

-- a search comes to the end, or finds one that passes
pub first_found : (test : ℕ → Bool) (n i : ℕ) → (first test n i ≡ i + n) ⊎ ((k : ℕ) × (k < n) × (test (i + k) ≡ true))
unfolding first
first_found test zero i = inl (sym (add-zero i))
first_found test (suc n) i = either (test i) refl (first_found test n (i + 1))
  where
    either : (b : Bool) → test i ≡ b → (first test n (i + 1) ≡ i + 1 + n) ⊎ ((k : ℕ) × (k < n) × (test (i + 1 + k) ≡ true)) → (cond b i (first test n (i + 1)) ≡ i + suc n) ⊎ ((k : ℕ) × (k < suc n) × (test (i + k) ≡ true))
    either true e rest = inr (0, omega arith, ap test (add-zero i) ∙ e)
    either false e (inl all) = let far : i + 1 + n ≡ i + suc n = omega arith in inl (all ∙ far)
    either false e (inr (k, less, passes)) = let next : i + suc k ≡ i + 1 + k = omega arith in inr (suc k, omega (arith, less), ap test next ∙ passes)
