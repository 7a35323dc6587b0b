-- Row 8 in the table's words: the code's test of the room is its four tests.
use mathlib.Core.Path.{◌≡◌, refl, ap, ◌∙◌}
use mathlib.Core.Logic.{inl, inr}
use mathlib.Core.Bool.{Bool, true, false, ◌||◌}
use mathlib.Core.List.{[], ◌∷◌}
use Prim.Native.Nat.{ℕ, min}
use native.Mathlib.Omega.{arith}
use borrow.Author.Tests.{lt-ltb, le-ltb}
use lib.Dec.{ltb}
use Rattle.laws.specs.Table.{any_of}
use Rattle.laws.proofs.Cases.{lt-or-ge}

-- the smaller of two is below where one of them is
smaller-below : (a b n : ℕ) → ltb (min a b) n ≡ (ltb a n || ltb b n)
smaller-below a b n =
    elim (lt-or-ge a n) [
      | inl low ↦ rw (lt-ltb (min a b) n (omega (arith, low)), lt-ltb a n low)
      | inr high ↦ rw (le-ltb a n high) (elim (lt-or-ge b n) [
        | inl low ↦ rw (lt-ltb (min a b) n (omega (arith, low)), lt-ltb b n low)
        | inr both ↦ rw (le-ltb (min a b) n (omega (arith, high, both)), le-ltb b n both)
      ])
    ]

turned_round : (a b c d : Bool) → ((c || d) || (a || b)) ≡ (((a || b) || c) || d)
turned_round false false false d = any d
  where
    any : (d : Bool) → (d || false) ≡ d
    any true = refl
    any false = refl
turned_round false false true d = refl
turned_round false true false false = refl
turned_round false true false true = refl
turned_round false true true d = refl
turned_round true b false false = refl
turned_round true b false true = refl
turned_round true b true d = refl

pub crowded-is : (rows work estimates segments positions asked : ℕ) → ((ltb estimates asked || ltb segments asked) || ltb (min rows work) positions) ≡ any_of (ltb rows positions ∷ ltb work positions ∷ ltb estimates asked ∷ ltb segments asked ∷ [])
crowded-is rows work estimates segments positions asked =
    ap (λ (b : Bool). (ltb estimates asked || ltb segments asked) || b) (smaller-below rows work positions)
    ∙ turned_round (ltb rows positions) (ltb work positions) (ltb estimates asked) (ltb segments asked)
