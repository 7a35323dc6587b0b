-- Rows emptied one by one, each column for itself.
use mathlib.Core.Path.{◌≡◌, refl, sym, ap, ◌∙◌}
use mathlib.Core.List.{List, ◌∷◌, ◌++◌, append_assoc}
use Prim.Native.Nat.{ℕ, suc, ◌+◌, ◌-◌, ◌<◌, ◌≤◌}
use native.Mathlib.Omega.{arith}
use lib.ListN.{length, set, take, drop, replicate, length-append, length-replicate, length-set, take-append-drop}
use lib.Seq.{length-take-le, drop-cons, set_at}
use Rattle.keys.specs.Numbers.{key_number}
use Rattle.timeline.specs.Segments.{emptied, SegmentRows}
use Rattle.timeline.specs.inside.Segments.{put_segment, Room}
use Rattle.timeline.specs.declared.segment.Segment.{Segment}
use Rattle.timeline.proofs.Segments.{same_rows}
use Rattle.shortening.specs.inside.Gap.{emptied_column, emptied_rows}
use Rattle.shortening.proofs.Settles.{one_more}

-- the entries of m₀ from `from` up to i are x
pub record Emptied {A : Type 0} (from : ℕ) (x : A) (m₀ m : List A) (i : ℕ) : Type 0 where
  pub here : m ≡ emptied_column from i x m₀
  pub long : length m ≡ length m₀

module _ {A : Type 0} (from : ℕ) (x : A) where
  emptied-start : (m : List A) → Emptied from x m m from
  emptied-start m =
      let none : from - from ≡ 0 = omega arith in
      record { here = sym (ap (λ (k : ℕ). take from m ++ (replicate k x ++ drop from m)) none ∙ take-append-drop from m); long = refl }

  emptied-more : {m₀ m : List A} {i : ℕ} → Emptied from x m₀ m i → from ≤ i → i < length m₀ → Emptied from x m₀ (set m i x) (i + 1)
  emptied-more {m₀} {m} {i} e h there =
      let k : ℕ = i - from in
      let next : suc i ≡ i + 1 = omega arith in
      let more : suc k ≡ i + 1 - from = omega arith in
      let before = take from m₀ ++ replicate k x in
      let long : length before ≡ i = simp (length-append, length-replicate, length-take-le from m₀ (omega arith)) (omega arith) in
      record {
        here = ap (λ (l : List A). set l i x) (e.here ∙ sym (append_assoc (take from m₀) (replicate k x) (drop i m₀)) ∙ ap (λ (l : List A). before ++ l) (drop-cons m₀ i x there))
            ∙ set_at before _ (drop (suc i) m₀) x i long
            ∙ append_assoc (take from m₀) (replicate k x) (x ∷ drop (suc i) m₀)
            ∙ ap (λ (l : List A). take from m₀ ++ l) (one_more k x (drop (suc i) m₀))
            ∙ ap (λ (n : ℕ). take from m₀ ++ (replicate n x ++ drop (suc i) m₀)) more
            ∙ ap (λ (n : ℕ). take from m₀ ++ (replicate (i + 1 - from) x ++ drop n m₀)) next;
        long = length-set m i x ∙ e.long;
      }

-- The rows from `from` up to i are emptied.
pub record Emptying (from count : ℕ) (before now : SegmentRows) (i : ℕ) : Type 0 where
  pub since : from ≤ i
  pub upto : i ≤ count
  pub room : Room before count
  pub starts : Emptied from emptied.start before.starts now.starts i
  pub ends : Emptied from emptied.end before.ends now.ends i
  pub keys : Emptied from (key_number emptied.key) before.keys now.keys i
  pub confidences : Emptied from emptied.confidence before.confidences now.confidences i
  pub counts : Emptied from emptied.windows before.counts now.counts i

pub emptying-start : {from count : ℕ} (before : SegmentRows) → from ≤ count → Room before count → Emptying from count before before from
emptying-start {from} before h room =
    record {
      since = omega arith;
      upto = h;
      room = room;
      starts = emptied-start _ _ _;
      ends = emptied-start _ _ _;
      keys = emptied-start _ _ _;
      confidences = emptied-start _ _ _;
      counts = emptied-start _ _ _;
    }

module _ {from count : ℕ} {before now : SegmentRows} {i : ℕ} (e : Emptying from count before now i) where
  -- the next row is there
  pub emptying-room : i < count → (i < length now.starts) × (i < length now.ends) × (i < length now.keys) × (i < length now.confidences) × (i < length now.counts)
  emptying-room h = (
    omega (arith, e.room.starts, e.starts.long),
    omega (arith, e.room.ends, e.ends.long),
    omega (arith, e.room.keys, e.keys.long),
    omega (arith, e.room.confidences, e.confidences.long),
    omega (arith, e.room.counts, e.counts.long),
  )

  pub emptying-more : {s : Segment} {after : SegmentRows} → i < count → s ≡ emptied → after ≡ put_segment s i now → Emptying from count before after (i + 1)
  emptying-more h nothing put = rw (put, nothing) (record {
    since = omega (arith, e.since);
    upto = omega arith;
    room = e.room;
    starts = emptied-more _ _ e.starts e.since (omega (arith, e.room.starts));
    ends = emptied-more _ _ e.ends e.since (omega (arith, e.room.ends));
    keys = emptied-more _ _ e.keys e.since (omega (arith, e.room.keys));
    confidences = emptied-more _ _ e.confidences e.since (omega (arith, e.room.confidences));
    counts = emptied-more _ _ e.counts e.since (omega (arith, e.room.counts));
  })

  pub emptying-end : count ≤ i → now ≡ emptied_rows from count before
  emptying-end h =
      let all : i ≡ count = omega (arith, e.upto) in
      same_rows e.starts.here e.ends.here e.keys.here e.confidences.here e.counts.here ∙ ap (λ (k : ℕ). emptied_rows from k before) all
