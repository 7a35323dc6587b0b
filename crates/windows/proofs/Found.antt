-- The estimates before each window.
use Rattle.std.proofs.Common.{◌≡◌, ℕ, zero, suc, ◌+◌, ◌≤◌, true, false, List, [], ◌∷◌, ◌++◌, length, add-one, arith, length-append}
use Rattle.laws.proofs.Cases.{by-test}
use Rattle.windows.specs.Span.{start_of}
use Rattle.gathering.specs.Gather.{Heard}
use Rattle.windows.specs.Run.{estimate_from, silent, estimates_before}
use Rattle.windows.specs.declared.span.Span.{Span}
use Rattle.timeline.specs.declared.estimate.Estimate.{Estimate}

-- one window on, where it is silent and where it is not
pub after-silent : (s : Span) (h : Heard) (k : ℕ) → silent s h (start_of s k) ≡ true → estimates_before s h (k + 1) ≡ estimates_before s h k
unfolding estimates_before
after-silent s h k q = rw (add-one, estimates_before, q)

pub after-heard : (s : Span) (h : Heard) (k : ℕ) → silent s h (start_of s k) ≡ false → estimates_before s h (k + 1) ≡ estimates_before s h k ++ (estimate_from s h (start_of s k) ∷ [])
unfolding estimates_before
after-heard s h k q = rw (add-one, estimates_before, q)

-- a window gives one at most
pub estimates-few : (s : Span) (h : Heard) (k : ℕ) → length (estimates_before s h k) ≤ k
unfolding estimates_before
estimates-few s h zero = omega arith
estimates-few s h (suc k) =
    by-test (λ (found : List Estimate). length found ≤ suc k) (silent s h (start_of s k))
    (λ _. omega (arith, estimates-few s h k))
    (λ _. simp length-append (omega (arith, estimates-few s h k)))
