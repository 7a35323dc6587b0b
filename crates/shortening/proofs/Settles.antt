-- Each join takes one segment away, so shortening ends by itself: a budget of one join to a segment is never used up, and where several segments are
-- left none of them is short.
use mathlib.Core.Path.{◌≡◌, refl, sym, ap, subst, ◌∙◌}
use mathlib.Core.Logic.{inl, inr}
use Prim.Native.Nat.{ℕ, zero, suc, ◌+◌, ◌-◌, ◌<◌, ◌≤◌}
use native.Mathlib.Nat.{zero-add}
use native.Mathlib.Numerals.{add-one}
use native.Mathlib.Omega.{arith}
use mathlib.Core.Bool.{Bool, true, false, not, cond}
use mathlib.Core.List.{List, ◌∷◌, ◌++◌}
use lib.ListN.{length, replicate, length-append, length-drop, length-replicate}
use lib.Seq.{length-take-le}
use lib.Dec.{T, ltb, eqb, ltb→lt, lt→ltb, nltb→le, T_not, not_T}
use lib.Ieee.{Float, le}
use lib.Ieee.Fits.{and_l, and_r, and_i, eq→eqb}
use lib.Ieee.Bits.{is_false}
use Rattle.laws.specs.First.{first}
use Rattle.laws.proofs.First.{first_start, first-again, first_out, first-none, first-or-end, first-within}
use Rattle.laws.proofs.Cases.{by-test}
use Rattle.timeline.specs.Segments.{seconds, short, joined, segment_at}
use Rattle.timeline.specs.declared.segment.Segment.{Segment}
use Rattle.shortening.specs.Shorten.{first_short, keeper, join_at, unsettled, join_short, shorten, shortened_of, left_in}
use Rattle.shortening.specs.Ends.{ShorteningEnds, NoneLeftShort}

-- one more of the same
pub one_more : {A : Type 0} (k : ℕ) (x : A) (rest : List A) → replicate k x ++ (x ∷ rest) ≡ replicate (suc k) x ++ rest
one_more zero x rest = refl
one_more (suc k) x rest = ap (λ (l : List _). x ∷ l) (one_more k x rest)

pub first_short-within : (least : Float) (segments : List Segment) → first_short least segments ≤ length segments
unfolding first_short
first_short-within least segments = rw (zero-add (length segments)) at (first-within (λ (k : ℕ). short least (segment_at segments k)) (length segments) 0)

-- a short segment with none before it
pub first_short-at : (least : Float) (segments : List Segment) (i : ℕ) → i < length segments → ((k : ℕ) → k < i → short least (segment_at segments k) ≡ false) → short least (segment_at segments i) ≡ true → first_short least segments ≡ i
unfolding first_short
first_short-at least segments i h none here = sym (first_out test (length segments) i (searched i (omega arith) none) h here)
  where
    test : ℕ → Bool
    test k = short least (segment_at segments k)

    searched : (i : ℕ) → i ≤ length segments → ((k : ℕ) → k < i → test k ≡ false) → first test (length segments - i) i ≡ first test (length segments) 0
    searched zero h none = first_start test (length segments)
    searched (suc i) h none =
        ap (λ (k : ℕ). first test (length segments - k) k) (sym (add-one i)) ∙ first-again test (length segments) i (searched i (omega arith) (λ k less. none k (omega (arith, less)))) (omega arith) (none i (omega arith))

-- ---- a join, segment by segment
pub join_at-first : (s t : Segment) (r : List Segment) → join_at 0 (s ∷ t ∷ r) ≡ joined s t ∷ r
unfolding join_at
join_at-first s t r = refl

pub join_at-more : (p : ℕ) (s : Segment) (r : List Segment) → join_at (suc p) (s ∷ r) ≡ s ∷ join_at p r
unfolding join_at
join_at-more p s r =
    let one : suc p + 1 ≡ suc (p + 1) = omega arith in
    let two : suc p + 2 ≡ suc (p + 2) = omega arith in
    rw (one, two)

-- ---- a join takes one segment away
pub join_at-length : (p : ℕ) (segments : List Segment) → suc p < length segments → suc (length (join_at p segments)) ≡ length segments
unfolding join_at
join_at-length p segments h = simp (length-append, length-drop, length-take-le p segments (omega arith)) (omega arith)

pub keeper-within : (segments : List Segment) (i : ℕ) → 1 < length segments → i < length segments → suc (keeper segments i) < length segments
unfolding keeper
keeper-within segments i several h =
    by-test Fine (eqb i 0) (λ _. several) (λ n.
    let inner : i ≡ 0 → ⊥ = λ z. T_not (eqb i 0) n (eq→eqb z) in
    let before : suc (i - 1) < length segments = omega (arith, inner) in
    by-test Fine (eqb (i + 1) (length segments)) (λ _. before) (λ m.
    let not_last : i + 1 ≡ length segments → ⊥ = λ z. T_not (eqb (i + 1) (length segments)) m (eq→eqb z) in
    by-test Fine (le (seconds (segment_at segments (i + 1))) (seconds (segment_at segments (i - 1)))) (λ _. before) (λ _. omega (arith, not_last))))
  where
    Fine : ℕ → Type 0
    Fine p = suc p < length segments

module _ (least : Float) (segments : List Segment) where
  pub several : T (unsettled least segments) → 1 < length segments
  unfolding unsettled
  several t = ltb→lt 1 (length segments) (and_l (ltb 1 (length segments)) (ltb (first_short least segments) (length segments)) t)

  pub found : T (unsettled least segments) → first_short least segments < length segments
  unfolding unsettled
  found t = ltb→lt (first_short least segments) (length segments) (and_r (ltb 1 (length segments)) (ltb (first_short least segments) (length segments)) t)

  pub to-join : 1 < length segments → first_short least segments < length segments → T (unsettled least segments)
  unfolding unsettled
  to-join h k = and_i (ltb 1 (length segments)) (ltb (first_short least segments) (length segments)) (lt→ltb 1 (length segments) h) (lt→ltb (first_short least segments) (length segments) k)

  pub few-settled : length segments ≤ 1 → T (not (unsettled least segments))
  few-settled h = not_T (unsettled least segments) (λ t. let many = several t in absurd (omega (arith, many)))

  pub long-settled : length segments ≤ first_short least segments → T (not (unsettled least segments))
  long-settled h = not_T (unsettled least segments) (λ t. let there = found t in absurd (omega (arith, there)))

  pub join_short-length : T (unsettled least segments) → suc (length (join_short least segments)) ≡ length segments
  unfolding join_short
  join_short-length t = join_at-length (keeper segments (first_short least segments)) segments (keeper-within segments (first_short least segments) (several t) (found t))

-- nothing joins where none is short
pub none-to-join : (least : Float) (segments : List Segment) → ((i : ℕ) → i < length segments → short least (segment_at segments i) ≡ false) → T (not (unsettled least segments))
unfolding first_short
none-to-join least segments none =
    not_T (unsettled least segments) (λ t.
    let there = found least segments t in
    elim (first-or-end (λ (k : ℕ). short least (segment_at segments k)) (length segments) 0) [
      | inl passes ↦ subst T (sym passes ∙ none (first_short least segments) there) tt
      | inr end ↦ absurd (omega (arith, there, end))
    ])

-- ---- what shortening leaves is settled
fewer : {m n k : ℕ} → suc m ≡ n → n ≤ suc k → m ≤ k
fewer e h = omega arith

settles : (budget : ℕ) (least : Float) (segments : List Segment) → length segments ≤ suc budget → T (not (unsettled least (shorten budget least segments)))
unfolding shorten
settles zero least segments h = few-settled least segments h
settles (suc budget) least segments h =
    by-test (λ (r : List Segment). T (not (unsettled least r))) (unsettled least segments)
    (λ t. settles budget least (join_short least segments) (fewer (join_short-length least segments t) h)) (λ t. t)

-- so the budget is never the reason to stop: any two that suffice give the same
pub stays : (budget : ℕ) (least : Float) (segments : List Segment) → T (not (unsettled least segments)) → shorten budget least segments ≡ segments
unfolding shorten
stays zero least segments t = refl
stays (suc budget) least segments t = by-test (λ (r : List Segment). r ≡ segments) (unsettled least segments) (λ u. absurd (T_not (unsettled least segments) t u)) (λ _. refl)

joins-on : (budget : ℕ) (least : Float) (segments : List Segment) → T (unsettled least segments) → shorten (suc budget) least segments ≡ shorten budget least (join_short least segments)
unfolding shorten
joins-on budget least segments t = by-test (λ (r : List Segment). r ≡ shorten budget least (join_short least segments)) (unsettled least segments) (λ _. refl) (λ u. absurd (T_not (unsettled least segments) u t))

-- what a join leaves becomes what it found
pub shortened-join : (least : Float) (segments : List Segment) → T (unsettled least segments) → shortened_of least (join_short least segments) ≡ shortened_of least segments
unfolding shortened_of
shortened-join least segments t = sym (joins-on (length (join_short least segments)) least segments t) ∙ ap (λ (n : ℕ). shorten n least segments) (join_short-length least segments t)

enough : (budget other : ℕ) (least : Float) (segments : List Segment) → length segments ≤ suc budget → length segments ≤ suc other → shorten budget least segments ≡ shorten other least segments
unfolding shorten
enough zero other least segments h k = sym (stays other least segments (few-settled least segments h))
enough (suc budget) zero least segments h k = stays (suc budget) least segments (few-settled least segments k)
enough (suc budget) (suc other) least segments h k =
    go (unsettled least segments) (λ t. let l = join_short-length least segments t in enough budget other least (join_short least segments) (fewer l h) (fewer l k))
  where
    go : (b : Bool) {x y : List Segment} → (T b → x ≡ y) → cond b x segments ≡ cond b y segments
    go true e = e tt
    go false e = refl

-- ---- what a join keeps, shortening keeps
pub shorten-keeps : (P : List Segment → Type 0) (least : Float) → ((segments : List Segment) → T (unsettled least segments) → P segments → P (join_short least segments)) → (budget : ℕ) (segments : List Segment) → P segments → P (shorten budget least segments)
unfolding shorten
shorten-keeps P least step zero segments p = p
shorten-keeps P least step (suc budget) segments p =
    by-test P (unsettled least segments) (λ t. shorten-keeps P least step budget (join_short least segments) (step segments t p)) (λ _. p)

module _ (least : Float) (segments : List Segment) where
  settled-at-last : T (not (unsettled least (shortened_of least segments)))
  unfolding shortened_of
  settled-at-last = settles (length segments) least segments (omega arith)

  pub some_left : 0 < length segments → 0 < length (shortened_of least segments)
  unfolding shortened_of
  some_left = shorten-keeps (λ (r : List Segment). 0 < length r) least (λ r t h. let one = join_short-length least r t in let many = several least r t in omega (arith, one, many)) (length segments) segments

  pub shortened-few : length (shortened_of least segments) ≤ length segments
  unfolding shortened_of
  shortened-few = shorten-keeps (λ (r : List Segment). length r ≤ length segments) least (λ r t h. let one = join_short-length least r t in omega (arith, one, h)) (length segments) segments (omega arith)

  pub left-long : length (left_in least segments) ≡ length segments
  unfolding left_in
  left-long = simp (length-append, length-replicate) (omega (arith, shortened-few))

-- ---- the theorems
pub shortening-ends : ShorteningEnds
unfolding shortened_of
shortening-ends least segments =
    record {
      nothing_left = is_false _ (settled-at-last least segments);
      no_more = λ budget h. enough budget (length segments) least segments (omega (arith, h)) (omega arith);
    }

none_short : (least : Float) (segments : List Segment) → T (not (unsettled least segments)) → 1 < length segments → (i : ℕ) → i < length segments → short least (segment_at segments i) ≡ false
unfolding first_short
none_short least segments t many i h =
    let test : ℕ → Bool = λ k. short least (segment_at segments k) in
    let far : length segments ≤ first_short least segments = nltb→le (first_short least segments) (length segments) (not_T (ltb (first_short least segments) (length segments)) (λ u. T_not (unsettled least segments) t (to-join least segments many (ltb→lt (first_short least segments) (length segments) u)))) in
    ap test (sym (zero-add i)) ∙ first-none test (length segments) 0 (rw (zero-add (length segments)) far) i h

pub none-left-short : NoneLeftShort
none-left-short least segments = none_short least (shortened_of least segments) (settled-at-last least segments)
