-- Tiling from one time to another, segment by segment, as a list is built and joined; the way to demand 3's words, which go by index, and what they give.
use mathlib.Core.Path.{◌≡◌, refl, sym, ap, subst, ◌∙◌}
use Prim.Native.Nat.{ℕ, zero, suc, ◌+◌, ◌-◌, ◌<◌, suc-le-suc}
use native.Mathlib.Nat.{add-zero, zero-lt-suc, not-suc-le-zero, le_of_suc-le-suc}
use native.Mathlib.Numerals.{add-one}
use native.Mathlib.Omega.{arith}
use mathlib.Core.List.{List, [], ◌∷◌, ◌++◌}
use lib.ListN.{length}
use lib.Dec.{T}
use lib.Ieee.{Float, binary64, le}
use Rattle.laws.specs.Values.{plus_zero, Held}
use Rattle.laws.proofs.Order.{le_refl, le_trans}
use Rattle.laws.proofs.Nonneg.{nonneg→ordered}
use Rattle.timeline.specs.Segments.{segment_at}
use Rattle.timeline.specs.Tiling.{Tiles}
use Rattle.timeline.specs.declared.segment.Segment.{Segment}

-- the segment starts at `from` and ends there or later
pub record Starts (from : Float) (s : Segment) : Type 0 where
  pub at : s.start ≡ from
  pub until : Held binary64 s.end
  pub onward : T (le from s.end)

-- each segment starts where the one before it ends
abbrev pub Chain : Float → Float → List Segment → Type 0
Chain from to [] = from ≡ to
Chain from to (s ∷ r) = Starts from s × Chain s.end to r

-- one more behind them
pub chain_more : (from mid : Float) (segments : List Segment) (s : Segment) → Chain from mid segments → Starts mid s → Chain from s.end (segments ++ (s ∷ []))
chain_more from mid [] s j p = (subst (λ (x : Float). Starts x s) (sym j) p, refl)
chain_more from mid (x ∷ r) s j p = (j.0, chain_more x.end mid r s j.1 p)

-- ---- from a chain to tiling
starts-at : (from to : Float) (segments : List Segment) (i : ℕ) → i < length segments → Chain from to segments → (at : Float) × Starts at (segment_at segments i)
starts-at from to [] i h j = absurd (not-suc-le-zero h)
starts-at from to (s ∷ r) zero h j = (from, j.0)
starts-at from to (s ∷ r) (suc i) h j = starts-at s.end to r i (le_of_suc-le-suc h) j.1

first_start : (from to : Float) (segments : List Segment) → 0 < length segments → Chain from to segments → (segment_at segments 0).start ≡ from
first_start from to [] h j = absurd (not-suc-le-zero h)
first_start from to (s ∷ r) h j = j.0.at

next_start : (from to : Float) (segments : List Segment) (i : ℕ) → suc i < length segments → Chain from to segments → (segment_at segments (suc i)).start ≡ (segment_at segments i).end
next_start from to [] i h j = absurd (not-suc-le-zero h)
next_start from to (s ∷ r) zero h j = first_start s.end to r (le_of_suc-le-suc h) j.1
next_start from to (s ∷ r) (suc i) h j = next_start s.end to r i (le_of_suc-le-suc h) j.1

last_end : (from to : Float) (segments : List Segment) (i : ℕ) → suc i ≡ length segments → Chain from to segments → (segment_at segments i).end ≡ to
last_end from to [] i e j = absurd (omega (arith, e))
last_end from to (s ∷ []) zero e j = j.1
last_end from to (s ∷ x ∷ r) zero e j = absurd (omega (arith, e))
last_end from to (s ∷ r) (suc i) e j = last_end s.end to r i (omega (arith, e)) j.1

pub chain→tiles : (duration : Float) (segments : List Segment) → 0 < length segments → Chain plus_zero duration segments → Tiles duration segments
chain→tiles duration segments some j =
    record {
      some = some;
      times = λ i h. (starts-at plus_zero duration segments i h j).1.until;
      first_start = first_start plus_zero duration segments some j;
      next_start = next;
      last_end = λ i e. last_end plus_zero duration segments i (sym (add-one i) ∙ e) j;
      forward = forward;
      ends_never_fall = λ i h. subst (λ (x : Float). T (le x (segment_at segments (i + 1)).end)) (next i h) (forward (i + 1) h);
    }
  where
    next : (i : ℕ) → i + 1 < length segments → (segment_at segments (i + 1)).start ≡ (segment_at segments i).end
    next i h = rw (add-one i) (next_start plus_zero duration segments i (omega arith) j)

    forward : (i : ℕ) → i < length segments → T (le (segment_at segments i).start (segment_at segments i).end)
    forward i h = let s = starts-at plus_zero duration segments i h j in subst (λ (x : Float). T (le x (segment_at segments i).end)) (sym s.1.at) s.1.onward

-- ---- from tiling to a chain
chained : (from to : Float) (s : Segment) (r : List Segment)
    → s.start ≡ from
    → ((i : ℕ) → i < length (s ∷ r) → Held binary64 (segment_at (s ∷ r) i).end)
    → ((i : ℕ) → suc i < length (s ∷ r) → (segment_at (s ∷ r) (suc i)).start ≡ (segment_at (s ∷ r) i).end)
    → ((i : ℕ) → suc i ≡ length (s ∷ r) → (segment_at (s ∷ r) i).end ≡ to)
    → ((i : ℕ) → i < length (s ∷ r) → T (le (segment_at (s ∷ r) i).start (segment_at (s ∷ r) i).end))
    → Chain from to (s ∷ r)
chained from to s [] at times next last forward =
    (record { at = at; until = times 0 (zero-lt-suc 0); onward = subst (λ (x : Float). T (le x s.end)) at (forward 0 (zero-lt-suc 0)) }, last 0 refl)
chained from to s (t ∷ r) at times next last forward = (
  record { at = at; until = times 0 (zero-lt-suc _); onward = subst (λ (x : Float). T (le x s.end)) at (forward 0 (zero-lt-suc _)) },
  chained s.end to t r (next 0 (suc-le-suc (zero-lt-suc _))) (λ i h. times (suc i) (suc-le-suc h)) (λ i h. next (suc i) (suc-le-suc h)) (λ i e. last (suc i) (ap suc e)) (λ i h. forward (suc i) (suc-le-suc h)),
)

pub tiles→chain : (duration : Float) (segments : List Segment) → Tiles duration segments → Chain plus_zero duration segments
tiles→chain duration [] t = absurd (not-suc-le-zero t.some)
tiles→chain duration (s ∷ r) t =
    chained plus_zero duration s r t.first_start t.times
    (λ i h. ap (λ (k : ℕ). (segment_at (s ∷ r) k).start) (sym (add-one i)) ∙ t.next_start i (rw (add-one i) h))
    (λ i e. t.last_end i (add-one i ∙ e))
    t.forward

-- ---- ends of tiles
module _ (duration : Float) (segments : List Segment) (tiles : Tiles duration segments) where
  -- no end is behind one d places on
  ends-rise : (d i : ℕ) → i + d < length segments → T (le (segment_at segments i).end (segment_at segments (i + d)).end)
  ends-rise zero i h =
      let end = (segment_at segments i).end in
      subst (λ (k : ℕ). T (le end (segment_at segments k).end)) (sym (add-zero i)) (le_refl end (nonneg→ordered end (tiles.times i (omega (arith, h))).at_least_zero))
  ends-rise (suc d) i h =
      let at : i + d + 1 ≡ i + suc d = omega arith in
      subst (λ (k : ℕ). T (le (segment_at segments i).end (segment_at segments k).end)) at
      (le_trans (segment_at segments i).end (segment_at segments (i + d)).end (segment_at segments (i + d + 1)).end (ends-rise d i (omega (arith, h))) (tiles.ends_never_fall (i + d) (omega (arith, h))))

  -- so none is behind the duration
  pub tiles-within : (i : ℕ) → i < length segments → T (le (segment_at segments i).end duration)
  tiles-within i h =
      let d = length segments - 1 - i in
      let end : i + d + 1 ≡ length segments = omega (arith, h) in
      subst (λ (x : Float). T (le (segment_at segments i).end x)) (tiles.last_end (i + d) end) (ends-rise d i (omega (arith, end)))
