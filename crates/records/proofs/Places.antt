-- Where records stand: the search for a short one, and which of two that join is the earlier.
use mathlib.Core.Path.{◌≡◌, refl, sym, ap, ◌∙◌}
use mathlib.Core.Bool.{Bool, true, false, cond}
use mathlib.Core.List.{List}
use Prim.Native.Nat.{ℕ, ◌+◌, ◌-◌, ◌<◌, ◌≤◌}
use native.Mathlib.Nat.{eq-or-lt_of_le}
use native.Mathlib.Omega.{arith}
use mathlib.Core.Logic.{inl, inr}
use lib.ListN.{length, take, drop, take-append-drop, get_or-append}
use lib.Seq.{length-take-le}
use lib.Dec.{ltb, ltb→lt, nltb→le}
use lib.Ieee.{Float, le}
use borrow.Author.Tests.{eq-eqb, ne_eqb}
use Rattle.laws.specs.First.{first}
use Rattle.laws.proofs.Cases.{by-test}
use Rattle.laws.proofs.First.{first_start, first-again, first_out, first-end}
use Rattle.timeline.specs.Segments.{emptied, seconds, short, segment_at}
use Rattle.timeline.specs.declared.segment.Segment.{Segment}
use Rattle.shortening.specs.Shorten.{first_short, keeper}
use Rattle.records.specs.inside.Steps.{place_after, kept_place}

-- a record among the first ones
pub among : (count i : ℕ) (l : List Segment) → i < count → count ≤ length l → segment_at (take count l) i ≡ segment_at l i
among count i l h k =
    let there : i < length (take count l) = rw (length-take-le count l k) h in
    sym (get_or-append (take count l) (drop count l) emptied i there) ∙ ap (λ (r : List Segment). segment_at r i) (take-append-drop count l)

-- The search has come to i: none before it is short.
pub record Searched (least : Float) (count : ℕ) (l : List Segment) (i : ℕ) : Type 0 where
  pub upto : i ≤ count
  pub ahead : first (λ (k : ℕ). short least (segment_at (take count l) k)) (count - i) i ≡ first_short least (take count l)

module _ {least : Float} {count : ℕ} {l : List Segment} (room : count ≤ length l) where
  pub searched-start : Searched least count l 0
  unfolding first_short
  searched-start =
      let test : ℕ → Bool = λ k. short least (segment_at (take count l) k) in
      record { upto = omega arith; ahead = first_start test count ∙ ap (λ (n : ℕ). first test n 0) (sym (length-take-le count l room)) }

  module _ {i : ℕ} (s : Searched least count l i) where
    pub searched-again : i < count → short least (segment_at l i) ≡ false → Searched least count l (i + 1)
    searched-again h e = record { upto = omega arith; ahead = first-again _ count i s.ahead h (ap (short least) (among count i l h room) ∙ e) }

    pub searched-out : i < count → short least (segment_at l i) ≡ true → i ≡ first_short least (take count l)
    searched-out h e = first_out _ count i s.ahead h (ap (short least) (among count i l h room) ∙ e)

    pub searched-end : count ≤ i → count ≡ first_short least (take count l)
    searched-end h =
        let all : count ≡ i = omega (arith, s.upto) in
        all ∙ first-end _ count i s.ahead h

-- ---- which of the two that join is the earlier, one law to each answer
module _ (i count : ℕ) (l : List Segment) (h : i < count) (room : count ≤ length l) where
  abbrev kept : ℕ → ℕ
  kept after = kept_place i (i - 1) after (segment_at l (i - 1)) (segment_at l after)

  keeps-first : i ≡ 0 → (after : ℕ) → kept after ≡ keeper (take count l) i
  unfolding kept_place keeper
  keeps-first e after =
      let same : i - 1 ≡ i = omega arith in
      rw (eq-eqb (i - 1) i same, eq-eqb i 0 e) e

  keeps-last : 0 < i → count ≤ i + 1 → kept i ≡ keeper (take count l) i
  unfolding kept_place keeper
  keeps-last inner far =
      let last : i + 1 ≡ count = omega arith in
      rw (ne_eqb (i - 1) i (λ z. omega (arith, inner, z)), eq-eqb i i refl, ne_eqb i 0 (λ z. omega (arith, inner, z)), length-take-le count l room, eq-eqb (i + 1) count last)

  keeps-longer : 0 < i → i + 1 < count → kept (i + 1) ≡ keeper (take count l) i
  unfolding kept_place keeper
  keeps-longer inner near =
      rw (
        ne_eqb (i - 1) i (λ z. omega (arith, inner, z)),
        ne_eqb (i + 1) i (λ z. omega (arith, z)),
        ne_eqb i 0 (λ z. omega (arith, inner, z)),
        length-take-le count l room,
        ne_eqb (i + 1) count (λ z. omega (arith, near, z)),
        among count (i + 1) l near room,
        among count (i - 1) l (omega arith) room,
      )

  pub keeper-is : kept (place_after i count) ≡ keeper (take count l) i
  unfolding place_after
  keeper-is =
      by-test (λ (after : ℕ). kept after ≡ keeper (take count l) i) (ltb (i + 1) count)
      (λ t. elim (eq-or-lt_of_le (zero-le i)) [ inl e ↦ keeps-first (sym e) (i + 1) | inr inner ↦ keeps-longer inner (ltb→lt (i + 1) count t) ])
      (λ t. elim (eq-or-lt_of_le (zero-le i)) [ inl e ↦ keeps-first (sym e) i | inr inner ↦ keeps-last inner (nltb→le (i + 1) count t) ])
    where
      zero-le : (n : ℕ) → 0 ≤ n
      zero-le n = omega arith

-- ---- the places around i
module _ (i count : ℕ) where
  pub after_next : i + 1 < count → i + 1 ≡ place_after i count
  unfolding place_after
  after_next h = by-test (λ (r : ℕ). i + 1 ≡ r) (ltb (i + 1) count) (λ _. refl) (λ t. absurd (omega (arith, h, nltb→le (i + 1) count t)))

  pub after_last : count ≤ i + 1 → i ≡ place_after i count
  unfolding place_after
  after_last h = by-test (λ (r : ℕ). i ≡ r) (ltb (i + 1) count) (λ t. absurd (omega (arith, h, ltb→lt (i + 1) count t))) (λ _. refl)

  pub after-within : i < count → place_after i count < count
  unfolding place_after
  after-within h = by-test (λ (r : ℕ). r < count) (ltb (i + 1) count) (λ t. ltb→lt (i + 1) count t) (λ _. h)

-- ---- the earlier of two, one law to each answer
module _ (i before after : ℕ) (earlier later : Segment) where
  pub kept-first : before ≡ i → i ≡ kept_place i before after earlier later
  unfolding kept_place
  kept-first e = rw (eq-eqb before i e)

  pub kept-last : (before ≡ i → ⊥) → after ≡ i → before ≡ kept_place i before after earlier later
  unfolding kept_place
  kept-last inner last = rw (ne_eqb before i inner, eq-eqb after i last)

  pub kept-longer : (answer : Bool) {a b : Float} → (before ≡ i → ⊥) → (after ≡ i → ⊥) → a ≡ seconds earlier → b ≡ seconds later → le b a ≡ answer → cond answer before i ≡ kept_place i before after earlier later
  unfolding kept_place
  kept-longer answer {a} {b} inner not_last e f t =
      let same : le (seconds later) (seconds earlier) ≡ answer = cc in
      rw (ne_eqb before i inner, ne_eqb after i not_last, same)
