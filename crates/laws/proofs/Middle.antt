-- The midpoint (a + b) / 2 of two values that the format holds, below 2 ^ emax: it lies between them, and it grows with each.
use mathlib.Core.Path.{◌≡◌, ap, subst}
use Prim.Native.Nat.{ℕ, ◌*◌, ◌≤◌}
use native.Mathlib.Nat.{le_trans, le_of_eq, mul-one, mul-le-mul_left}
use native.Mathlib.Omega.{arith}
use mathlib.Core.Bool.{false}
use lib.Dec.{T}
use lib.IntN.{pos}
use lib.Ieee.{Float, fin, Format, emax, add, le, fits}
use lib.Ieee.Fits.{div-fits}
use lib.Ieee.Positive.{num, den}
use Rattle.laws.specs.Convert.{half, midpoint}
use Rattle.laws.specs.Values.{clear, two, Held, Modest}
use Rattle.laws.proofs.Order.{le_refl, lt_of_le_of_lt}
use Rattle.laws.proofs.Nonneg.{clear→ordered, nonneg→clear, nonneg-under, add-clear, add-mono, div-clear, div_mono, div-rounds, rounds-mono}
use Rattle.laws.proofs.Held.{held-rounds, half-double}

of : {f : Format} {x : Float} → Modest f x → T (clear x)
of {f} {x} m = nonneg→clear x m.held.at_least_zero

self : {f : Format} {x : Float} → Modest f x → T (le x x)
self {f} {x} m = le_refl x (clear→ordered x (of m))

pub half-under : (f : Format) (x : Float) → Held f x → T (le (half f x) x)
half-under f x h = rounds-mono (div-rounds f x two h.at_least_zero tt) (held-rounds f x h) (go (num x) (den x))
  where
    go : (a c : ℕ) → a * 1 * c ≤ a * (2 * c)
    go a c = le_trans (le_of_eq (ap (λ (z : ℕ). z * c) (mul-one a))) (mul-le-mul_left a (go' c))
      where
        go' : (k : ℕ) → k ≤ 2 * k
        go' k = omega arith

pub half-mono : (f : Format) (x y : Float) → T (clear x) → T (clear y) → T (le x y) → T (le (half f x) (half f y))
half-mono f x y p q h = div_mono f x y two two p q tt tt h (le_refl two tt)

pub midpoint-mono : (f : Format) (a a' b b' : Float) → T (clear a) → T (clear a') → T (clear b) → T (clear b') → T (le a a') → T (le b b') → T (le (midpoint f a b) (midpoint f a' b'))
midpoint-mono f a a' b b' m m' n n' h k = half-mono f (add f a b) (add f a' b') (add-clear f a b m n) (add-clear f a' b' m' n') (add-mono f a a' b b' m m' n n' h k)

-- the midpoint of a value with itself is the value, so between a ≤ b it lies between theirs
pub midpoint-same : (f : Format) (a : Float) → Modest f a → midpoint f a a ≡ a
midpoint-same f a m = half-double f a m.held m.low_enough

pub midpoint-above : (f : Format) (a b : Float) → Modest f a → Modest f b → T (le a b) → T (le a (midpoint f a b))
midpoint-above f a b m n h =
    subst (λ (z : Float). T (le z (midpoint f a b))) (midpoint-same f a m)
    (midpoint-mono f a a a b (of m) (of m) (of m) (of n) (self m) h)

pub midpoint-below : (f : Format) (a b : Float) → Modest f a → Modest f b → T (le a b) → T (le (midpoint f a b) b)
midpoint-below f a b m n h =
    subst (λ (z : Float). T (le (midpoint f a b) z)) (midpoint-same f b n)
    (midpoint-mono f a b b b (of m) (of n) (of n) (of n) h (self n))

-- what lies under such a value is one
pub modest-under : (f : Format) (z hi : Float) → T (fits f z) → T (clear z) → Modest f hi → T (le z hi) → Modest f z
modest-under f z hi t c m h =
    record {
      held = record { in_format = t; at_least_zero = nonneg-under z hi c m.held.at_least_zero h };
      low_enough = lt_of_le_of_lt z hi (fin false 1 (pos (emax f))) h m.low_enough;
    }

pub midpoint-modest : (f : Format) (a b : Float) → Modest f a → Modest f b → T (le a b) → Modest f (midpoint f a b)
midpoint-modest f a b m n h =
    modest-under f (midpoint f a b) b (div-fits f (add f a b) two) (div-clear f (add f a b) two (add-clear f a b (of m) (of n)) tt) n (midpoint-below f a b m n h)
