-- The lowest place that a search finds is the first that passes.
use Rattle.std.proofs.Common.{◌≡◌, ℕ, ◌<◌, ◌≤◌, Bool, true, false, Option, None, Some, arith, refl}
use mathlib.Core.Logic.{inl, inr}
use borrow.Author.Tests.{lt-ltb, le-ltb}
use Rattle.std.specs.Option.{MatchOption}
use Rattle.laws.specs.First.{first}
use Rattle.laws.proofs.Cases.{lt-or-ge}
use Rattle.laws.proofs.First.{first-before, first-behind}
use Rattle.set_places.specs.Places.{places, found_place}

-- what a search over the places tells
abbrev pub Searched : (ℕ → Bool) → Option ℕ → Type 0
Searched test r =
    MatchOption r ((k : ℕ) → 0 ≤ k → k < places → test k ≡ false) (λ i. (0 ≤ i) × (i < places) × (test i ≡ true) × ((k : ℕ) → 0 ≤ k → k < i → test k ≡ false))

pub found-first : (test : ℕ → Bool) (r : Option ℕ) → Searched test r → r ≡ found_place (first test places 0)
found-first test None none = rw (le-ltb (first test places 0) places (first-behind test places places (omega arith) (λ k less. none k (omega arith) less))) refl
found-first test (Some i) some =
    let low = first-behind test places i (omega (arith, some.1)) (λ k less. some.3 k (omega arith) less) in
    let same : first test places 0 ≡ i = elim (lt-or-ge i (first test places 0)) [
      | inl above ↦ absurd (let z : ◌≡◌ {A = ℕ} 0 1 = cc (some.2, first-before test places 0 i (omega arith) above) in omega arith)
      | inr below ↦ omega (arith, low, below)
    ] in
    rw (same, lt-ltb i places some.1) refl

-- what was found is the place, inside the set; none is found where the search came to the end
pub found-some : (place : ℕ) {p : ℕ} → ◌≡◌ {A = Option ℕ} (Some p) (found_place place) → (p ≡ place) × (p < places)
found-some place {p} e = elim (lt-or-ge place places) [
  | inl less ↦ let same : p ≡ place = cc (rw (lt-ltb place places less) at e) in (same, omega (arith, same, less))
  | inr far ↦ absurd (let z : ◌≡◌ {A = ℕ} 0 1 = cc (rw (le-ltb place places far) at e) in omega arith)
]

pub found-none : (place : ℕ) → ◌≡◌ {A = Option ℕ} None (found_place place) → places ≤ place
found-none place e = elim (lt-or-ge place places) [
  | inl less ↦ absurd (let z : ◌≡◌ {A = ℕ} 0 1 = cc (rw (lt-ltb place places less) at e) in omega arith)
  | inr far ↦ far
]
