-- What is noted of segments, one after the other: each key's seconds, and the keys in the order in which they are first met.
use mathlib.Core.Path.{◌≡◌, refl, sym, ap, ◌∙◌, subst}
use mathlib.Core.Bool.{Bool, true, false, ◌&&◌}
use mathlib.Core.List.{List, [], ◌∷◌, ◌++◌, map, map-append}
use Prim.Native.Nat.{ℕ, zero, suc, ◌+◌, ◌<◌, ◌≤◌}
use native.Mathlib.Nat.{le_of_suc-le-suc}
use native.Mathlib.Omega.{arith}
use lib.Dec.{T}
use lib.ListN.{length, get_or, set, drop, get_or-map, replicate, get_or-replicate, length-append}
use lib.Seq.{slice}
use lib.Ieee.{Float, nan, binary64, add}
use lib.Ieee.Fits.{and_l}
use borrow.Author.Tests.{eq-eqb, ne_eqb}
use Rattle.laws.specs.Front.{front, list}
use Rattle.laws.specs.Lists.{passing, fold}
use Rattle.laws.specs.Order.{total_order}
use Rattle.laws.specs.Values.{plus_zero}
use Rattle.laws.specs.Leader.{without, keys_met, nobody, last_largest}
use Rattle.laws.proofs.Front.{list_same, list_set, replicate-list, get_or-list}
use Rattle.laws.proofs.Column.{entry-there}
use Rattle.laws.proofs.Lists.{passing-more, passing-less}
use Rattle.laws.proofs.Leader.{has, has-met, has-passing, has-place, fold_same, met-without}
use Rattle.laws.proofs.Meeting.{Meets, meets-start, new-fits, meets-new, meets-known, met-few, met-back, met-below}
use Rattle.keys.specs.Numbers.{key_number}
use Rattle.keys.proofs.Placed.{numbers-are-keys}
use Rattle.timeline.specs.inside.Estimates.{Numbered}
use Rattle.timeline.specs.Segments.{emptied}
use Rattle.timeline.specs.declared.segment.Segment.{Segment}
use Rattle.alternates.specs.Alternate.{held_seconds, lasting, lasts_in, summed_from, seconds_of, lasting_keys, rival_of}
use Rattle.alternates.specs.inside.Noted.{noted, noted_of, leader_in}
use Rattle.alternates.specs.declared.alternate.Noted.{Noted}
use Rattle.alternates.proofs.Sums.{summed-more}

-- ---- one segment more
module _ (segments : List Segment) (s : Segment) where
  keys-same : lasting s ≡ false → lasting_keys (segments ++ (s ∷ [])) ≡ lasting_keys segments
  unfolding lasting_keys
  keys-same e = ap (map _) (passing-less lasting segments s e)

  module _ (key : ℕ) (own : key ≡ key_number s.key) where
    keys-more : lasting s ≡ true → lasting_keys (segments ++ (s ∷ [])) ≡ lasting_keys segments ++ (key ∷ [])
    unfolding lasting_keys
    keys-more e = ap (map _) (passing-more lasting segments s e) ∙ map-append _ (passing lasting segments) (s ∷ []) ∙ ap (λ (k : ℕ). lasting_keys segments ++ (k ∷ [])) (sym own)

    seconds-more : lasting s ≡ true → seconds_of (segments ++ (s ∷ [])) key ≡ add binary64 (seconds_of segments key) (held_seconds s)
    unfolding seconds_of lasts_in
    seconds-more e =
        let lasts : lasts_in key s ≡ true = rw (e, eq-eqb (key_number s.key) key (sym own)) in
        ap (summed_from plus_zero) (passing-more (lasts_in key) segments s lasts) ∙ summed-more plus_zero (passing (lasts_in key) segments) s

    seconds-other : (j : ℕ) → (j ≡ key → ⊥) → seconds_of segments j ≡ seconds_of (segments ++ (s ∷ [])) j
    unfolding seconds_of lasts_in
    seconds-other j apart =
        let none : lasts_in j s ≡ false = rw (ne_eqb (key_number s.key) j (λ e. apart (sym e ∙ sym own))) (never (lasting s)) in
        sym (ap (summed_from plus_zero) (passing-less (lasts_in j) segments s none))
      where
        never : (b : Bool) → (b && false) ≡ false
        never true = refl
        never false = refl

  seconds-idle : lasting s ≡ false → (j : ℕ) → seconds_of segments j ≡ seconds_of (segments ++ (s ∷ [])) j
  unfolding seconds_of lasts_in
  seconds-idle e j =
      let none : lasts_in j s ≡ false = rw e in
      sym (ap (summed_from plus_zero) (passing-less (lasts_in j) segments s none))

-- what stands there after these segments
pub record Noting (reported : ℕ) (segments : List Segment) (sums : List Float) (order : List ℕ) (known : List Bool) (met : ℕ) : Type 0 where
  pub sums_are : sums ≡ list (seconds_of segments) 24
  pub meets : Meets 24 (reported ∷ lasting_keys segments) order known met

pub noting-start : (reported : ℕ) → reported < 24 → Noting reported [] (replicate 24 plus_zero) (set (replicate 24 0) 0 reported) (set (replicate 24 false) reported true) 1
unfolding lasting_keys seconds_of passing fold
noting-start reported below =
    record {
      sums_are = replicate-list 24 plus_zero;
      meets = meets-new 24 [] (replicate 24 0) (replicate 24 false) 0 (meets-start 24) reported below false (get_or-replicate 24 reported false false below);
    }

module _ (reported : ℕ) (segments : List Segment) (sums : List Float) (order : List ℕ) (known : List Bool) (met : ℕ) (n : Noting reported segments sums order known met) where
  pub noting-all : noted sums order met ≡ noted_of reported segments
  unfolding noted_of
  noting-all = λ k. noted (n.sums_are k) (n.meets.order_is k) (n.meets.met_is k)

module _ (reported : ℕ) (segments : List Segment) (sums : List Float) (order : List ℕ) (known : List Bool) (met : ℕ) (n : Noting reported segments sums order known met) (s : Segment) where
  pub noting-idle : lasting s ≡ false → Noting reported (segments ++ (s ∷ [])) sums order known met
  noting-idle e =
      record {
        sums_are = n.sums_are ∙ list_same (seconds_of segments) (seconds_of (segments ++ (s ∷ []))) 24 (λ j h. seconds-idle segments s e j);
        meets = rw (keys-same segments s e) n.meets;
      }

  module _ (e : lasting s ≡ true) (key : ℕ) (own : key ≡ key_number s.key) where
    pub key_below : key < 24
    key_below = subst (λ (k : ℕ). k < 24) (sym own) (numbers-are-keys.below s.key)

    summed : (d : Float) {sum : Float} → sum ≡ add binary64 (get_or sums key d) (held_seconds s) → set sums key sum ≡ list (seconds_of (segments ++ (s ∷ []))) 24
    summed d {sum} told =
        let all : sum ≡ seconds_of (segments ++ (s ∷ [])) key = told ∙ ap (λ (x : Float). add binary64 x (held_seconds s)) (ap (λ (l : List Float). get_or l key d) n.sums_are ∙ get_or-list (seconds_of segments) 24 key d key_below) ∙ sym (seconds-more segments s key own e) in
        ap (λ (l : List Float). set l key sum) n.sums_are ∙ list_set (seconds_of segments) (seconds_of (segments ++ (s ∷ []))) 24 key sum key_below all (seconds-other segments s key own)

    pub unmet-fits : (b : Bool) → get_or known key b ≡ false → met < 24
    unmet-fits = new-fits 24 (reported ∷ lasting_keys segments) order known met n.meets key key_below

    pub noting-new : (d : Float) {sum : Float} → sum ≡ add binary64 (get_or sums key d) (held_seconds s) → (b : Bool) → get_or known key b ≡ false → Noting reported (segments ++ (s ∷ [])) (set sums key sum) (set order met key) (set known key true) (met + 1)
    noting-new d told b new =
        record { sums_are = summed d told; meets = rw (keys-more segments s key own e) (meets-new 24 (reported ∷ lasting_keys segments) order known met n.meets key key_below b new) }

    pub noting-known : (d : Float) {sum : Float} → sum ≡ add binary64 (get_or sums key d) (held_seconds s) → (b : Bool) → get_or known key b ≡ true → Noting reported (segments ++ (s ∷ [])) (set sums key sum) order known met
    noting-known d told b old =
        record { sums_are = summed d told; meets = rw (keys-more segments s key own e) (meets-known 24 (reported ∷ lasting_keys segments) order known met n.meets key key_below b old) }

-- ---- once all segments are noted
module _ (reported : ℕ) (below : reported < 24) (segments : List Segment) where
  abbrev keys : List ℕ
  keys = reported ∷ lasting_keys segments

  key-at : (j : ℕ) → j < length (lasting_keys segments) → get_or (lasting_keys segments) j 0 ≡ key_number (get_or (passing lasting segments) j emptied).key
  unfolding lasting_keys
  key-at j h = entry-there (lasting_keys segments) j 0 (key_number emptied.key) h ∙ get_or-map (λ (s : Segment). key_number s.key) (passing lasting segments) j emptied

  keys_below : (j : ℕ) → j < length keys → get_or keys j 0 < 24
  keys_below zero h = below
  keys_below (suc j) h = subst (λ (n : ℕ). n < 24) (sym (key-at j (le_of_suc-le-suc h))) (numbers-are-keys.below (get_or (passing lasting segments) j emptied).key)

  has-below : (k : ℕ) → T (has k keys) → k < 24
  has-below k t = let at = has-place k keys t in subst (λ (n : ℕ). n < 24) at.2 (keys_below at.0 at.1)

  pub noted-fits : {n : Noted} → n ≡ noted_of reported segments → (0 < n.met) × (n.met ≤ 24) × (n.met ≤ length n.order) × Numbered n.order n.met
  unfolding noted_of
  noted-fits e = rw e (unfold keys_met in omega arith, met-few 24 keys keys_below, rw length-append (omega arith), λ j h. met-below keys (replicate 24 0) 24 has-below j 0 h)

  rival-below : (k : ℕ) → T (has k (keys_met (without reported (lasting_keys segments)))) → k < 24
  unfolding without
  rival-below k t =
      let there = and_l (has k (lasting_keys segments)) _ (subst T (has-met k (without reported (lasting_keys segments)) ∙ has-passing _ k (lasting_keys segments)) t) in
      let at = has-place k (lasting_keys segments) there in
      subst (λ (n : ℕ). n < 24) at.2 (keys_below (suc at.0) (omega (arith, at.1)))

  -- behind the reported key stand the others, in the order in which they are first met
  rivals-back : slice 1 (length (keys_met keys)) (front (keys_met keys) (replicate 24 0)) ≡ keys_met (without reported (lasting_keys segments))
  rivals-back = ap (drop 1) (met-back keys (replicate 24 0)) ∙ unfold keys_met in sym (met-without reported (lasting_keys segments))

  pub rival-told : {n : Noted} → n ≡ noted_of reported segments → leader_in n ≡ rival_of reported segments
  unfolding noted_of leader_in rival_of last_largest
  rival-told e =
      rw (e, rivals-back)
      (fold_same total_order _ (seconds_of segments) (keys_met (without reported (lasting_keys segments))) (λ k t. get_or-list (seconds_of segments) 24 k nan (rival-below k t)) nobody)
