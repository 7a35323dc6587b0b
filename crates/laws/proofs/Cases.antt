-- A test's two outcomes: what holds of both answers of `cond`, a function of them, two tests that pass alike, tests joined by `||`, and numbers that compare one way or the other.
use mathlib.Core.Path.{◌≡◌, refl}
use mathlib.Core.Logic.{◌⊎◌, inl, inr}
use mathlib.Core.Bool.{Bool, true, false, not, ◌||◌, cond}
use Prim.Native.Nat.{ℕ, ◌≤◌, ◌<◌}
use lib.Dec.{T, ltb, ltb→lt, nltb→le}

pub by-test : {A : Type 0} (P : A → Type 0) (b : Bool) {x y : A} → (T b → P x) → (T (not b) → P y) → P (cond b x y)
by-test P true h k = h tt
by-test P false h k = k tt

pub through-test : {A B : Type 0} (f : A → B) (b : Bool) (x y : A) → f (cond b x y) ≡ cond b (f x) (f y)
through-test f true x y = refl
through-test f false x y = refl

pub passed-or-failed : (b : Bool) → T b ⊎ T (not b)
passed-or-failed true = inl tt
passed-or-failed false = inr tt

pub same_test : (a b : Bool) → (T a → T b) → (T b → T a) → a ≡ b
same_test true true p q = refl
same_test true false p q = absurd (p tt)
same_test false true p q = absurd (q tt)
same_test false false p q = refl

pub or_l : (a b : Bool) → T a → T (a || b)
or_l true b t = tt
or_l false b t = absurd t

pub or_r : (a b : Bool) → T b → T (a || b)
or_r true b t = tt
or_r false b t = t

pub or_split : (a b : Bool) → T (a || b) → T a ⊎ T b
or_split true b t = inl tt
or_split false b t = inr t

pub lt-or-ge : (a b : ℕ) → (a < b) ⊎ (b ≤ a)
lt-or-ge a b = elim (passed-or-failed (ltb a b)) [ inl t ↦ inl (ltb→lt a b t) | inr t ↦ inr (nltb→le a b t) ]
