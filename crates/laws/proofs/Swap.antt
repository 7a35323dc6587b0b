-- The two parts of a sum of floats may change places.
use mathlib.Core.Path.{◌≡◌, refl, sym, ap, ◌∙◌}
use mathlib.Core.Logic.{inl, inr}
use mathlib.Core.Bool.{Bool, true, false, cond}
use Prim.Native.Nat.{ℕ, ◌-◌, ◌*◌, ◌≤◌}
use native.Mathlib.Nat.{add_comm, mul_comm}
use native.Mathlib.Omega.{arith}
use borrow.Author.Tests.{lt-ltb, le-ltb}
use lib.Dec.{ltb}
use lib.Ieee.{Float, nan, inf, fin, Format, up, down, round, sum, add}
use Rattle.laws.proofs.Cases.{lt-or-ge}

-- a sum of two signs is the larger part less the smaller, with the larger one's sign
signs-differ : (f : Format) (a b c : ℕ) → cond (ltb a b) (round f false (b - a) c) (round f (ltb b a) (a - b) c) ≡ cond (ltb b a) (round f true (a - b) c) (round f false (b - a) c)
signs-differ f a b c =
    elim (lt-or-ge a b) [
      | inl l ↦ let g : a ≤ b = omega arith in rw (lt-ltb a b l, le-ltb b a g)
      | inr g ↦ elim (lt-or-ge b a) [
        | inl l ↦ rw (le-ltb a b g, lt-ltb b a l)
        | inr h ↦ let e : a - b ≡ b - a = omega arith in rw (le-ltb a b g, le-ltb b a h, e)
      ]
    ]

sum-swap : (f : Format) (s : Bool) (a : ℕ) (t : Bool) (b c : ℕ) → sum f s a t b c ≡ sum f t b s a c
unfolding sum
sum-swap f true a true b c = ap (λ (n : ℕ). round f true n c) (add_comm a b)
sum-swap f false a false b c = ap (λ (n : ℕ). round f false n c) (add_comm a b)
sum-swap f true a false b c = signs-differ f a b c
sum-swap f false a true b c = sym (signs-differ f b a c)

pub add-swap : (f : Format) (x y : Float) → add f x y ≡ add f y x
unfolding add
add-swap f nan nan = refl
add-swap f nan (inf t) = refl
add-swap f nan (fin t n d) = refl
add-swap f (inf s) nan = refl
add-swap f (inf true) (inf true) = refl
add-swap f (inf true) (inf false) = refl
add-swap f (inf false) (inf true) = refl
add-swap f (inf false) (inf false) = refl
add-swap f (inf s) (fin t n d) = refl
add-swap f (fin s m e) nan = refl
add-swap f (fin s m e) (inf t) = refl
add-swap f (fin s m e) (fin t n d) =
    sum-swap f s (m * up e * down d) t (n * up d * down e) (down e * down d) ∙ ap (sum f t (n * up d * down e) s (m * up e * down d)) (mul_comm (down e) (down d))
