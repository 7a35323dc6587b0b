-- Laws of tests: what is known where none of several passed, and where no row of a table applied.
use mathlib.Core.Path.{◌≡◌, refl, sym, ap, ◌∙◌}
use native.Mathlib.Omega.{arith}
use mathlib.Core.Bool.{Bool, true, false, not, ◌&&◌, ◌||◌, cond}
use mathlib.Core.List.{List, [], ◌∷◌, map}
use Prim.Native.Nat.{ℕ, zero, suc}
use lib.ListN.{get_or}
use Rattle.laws.specs.Table.{Check, first_of, or_from, any_of, and_from, all_of}

-- of a failed `a || b` both failed
pub left-failed : (a b : Bool) → (a || b) ≡ false → a ≡ false
left-failed false b e = refl
left-failed true b e = e

pub right-failed : (a b : Bool) → (a || b) ≡ false → b ≡ false
right-failed false b e = e
right-failed true false e = refl
right-failed true true e = e

so-far-failed : (sofar : Bool) (ts : List Bool) → or_from sofar ts ≡ false → sofar ≡ false
so-far-failed sofar [] e = e
so-far-failed sofar (t ∷ ts) e = left-failed sofar t (so-far-failed (sofar || t) ts e)

later-failed : (sofar : Bool) (ts : List Bool) → or_from sofar ts ≡ false → (i : ℕ) → get_or ts i false ≡ false
later-failed sofar [] e zero = refl
later-failed sofar [] e (suc i) = refl
later-failed sofar (t ∷ ts) e zero = right-failed sofar t (so-far-failed (sofar || t) ts e)
later-failed sofar (t ∷ ts) e (suc i) = later-failed (sofar || t) ts e i

-- where none of the tests passes, test number i failed
pub none_of : (ts : List Bool) → any_of ts ≡ false → (i : ℕ) → get_or ts i false ≡ false
none_of [] e zero = refl
none_of [] e (suc i) = refl
none_of (t ∷ ts) e zero = so-far-failed t ts e
none_of (t ∷ ts) e (suc i) = later-failed t ts e i

-- of a passed `a && b` both passed
left_passed : (a b : Bool) → (a && b) ≡ true → a ≡ true
left_passed true b e = refl
left_passed false b e = e

right-passed : (a b : Bool) → (a && b) ≡ true → b ≡ true
right-passed true b e = e
right-passed false true e = refl
right-passed false false e = e

so-far-passed : (sofar : Bool) (ts : List Bool) → and_from sofar ts ≡ true → sofar ≡ true
so-far-passed sofar [] e = e
so-far-passed sofar (t ∷ ts) e = left_passed sofar t (so-far-passed (sofar && t) ts e)

later-passed : (sofar : Bool) (ts : List Bool) → and_from sofar ts ≡ true → (i : ℕ) → get_or ts i true ≡ true
later-passed sofar [] e zero = refl
later-passed sofar [] e (suc i) = refl
later-passed sofar (t ∷ ts) e zero = right-passed sofar t (so-far-passed (sofar && t) ts e)
later-passed sofar (t ∷ ts) e (suc i) = later-passed (sofar && t) ts e i

-- where all tests pass, test number i passed
pub each_of : (ts : List Bool) → all_of ts ≡ true → (i : ℕ) → get_or ts i true ≡ true
each_of [] e zero = refl
each_of [] e (suc i) = refl
each_of (t ∷ ts) e zero = so-far-passed t ts e
each_of (t ∷ ts) e (suc i) = later-passed t ts e i

-- ---- tables

apart : {A : Type 0} → false ≡ true → A
apart e = let z : ◌≡◌ {A = ℕ} 0 1 = cc in absurd (omega arith)

-- no row of the table has an answer of a kind
abbrev pub none : {A : Type 0} → (A → Bool) → List (Check A) → Bool
none kind [] = true
none kind (r ∷ rs) = cond (kind r.answer) false (none kind rs)

-- so where the table's answer is of that kind, each row's test failed, and it is the answer below the rows
pub record Fell {A : Type 0} (rows : List (Check A)) (other answer : A) : Type 0 where
  pub failed : (i : ℕ) → get_or (map (λ (r : Check A). r.test) rows) i false ≡ false
  pub below : other ≡ answer

both : (t : Bool) (ts : List Bool) → t ≡ false → ((i : ℕ) → get_or ts i false ≡ false) → (i : ℕ) → get_or (t ∷ ts) i false ≡ false
both t ts h hs zero = h
both t ts h hs (suc i) = hs i

nothing : (i : ℕ) → get_or {A = Bool} [] i false ≡ false
nothing zero = refl
nothing (suc i) = refl

one_more : {A : Type 0} (kind : A → Bool) (r : Check A) (rs : List (Check A)) (other : A) {answer : A} (t k : Bool) → r.test ≡ t → kind r.answer ≡ k → cond k false (none kind rs) ≡ true → kind answer ≡ true → cond t r.answer (first_of rs other) ≡ answer → (none kind rs ≡ true → first_of rs other ≡ answer → Fell rs other answer) → Fell (r ∷ rs) other answer
one_more kind r rs other t true a b q g e go = apart q
one_more kind r rs other true false a b q g e go = apart (sym b ∙ ap kind e ∙ g)
one_more kind r rs other false false a b q g e go =
    let more = go q e in
    record { failed = both r.test (map (λ (x : Check _). x.test) rs) a more.failed; below = more.below }

pub fell-through : {A : Type 0} (kind : A → Bool) (rows : List (Check A)) (other : A) {answer : A} → none kind rows ≡ true → kind answer ≡ true → first_of rows other ≡ answer → Fell rows other answer
fell-through kind [] other q g e = record { failed = nothing; below = e }
fell-through kind (r ∷ rs) other q g e = one_more kind r rs other r.test (kind r.answer) refl refl q g e (λ q' e'. fell-through kind rs other q' g e')

-- ---- a ladder of returns: `next` for each test that failed on the way, and `here` at the one that passed
pub data Reads {A : Type 0} (other : A) : List (Check A) → A → Type 0 where
  end : Reads other [] other
  here : {r : Check A} {rs : List (Check A)} → r.test ≡ true → Reads other (r ∷ rs) r.answer
  next : {r : Check A} {rs : List (Check A)} {a : A} → r.test ≡ false → Reads other rs a → Reads other (r ∷ rs) a

pub reads : {A : Type 0} {other : A} {rows : List (Check A)} {a : A} → Reads other rows a → a ≡ first_of rows other
reads end = refl
reads {other} {rows = r ∷ rs} (here t) = sym (ap (λ (b : Bool). cond b r.answer (first_of rs other)) t)
reads {other} {rows = r ∷ rs} (next t rest) = reads rest ∙ sym (ap (λ (b : Bool). cond b r.answer (first_of rs other)) t)

-- a test that a call answered, and its negation
pub told : {flag test answer : Bool} → flag ≡ test → flag ≡ answer → test ≡ answer
told e t = sym e ∙ t

pub told-not : {flag test answer : Bool} → flag ≡ test → not flag ≡ answer → not test ≡ answer
told-not e t = ap not (sym e) ∙ t

-- after a test that failed no later one counts
pub failed-already : (ts : List Bool) → and_from false ts ≡ false
failed-already [] = refl
failed-already (t ∷ ts) = failed-already ts
