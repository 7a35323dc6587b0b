-- The leader of the rivals has the most seconds; more seconds are more coverage; and where a key lasts, all seconds together are above an instant.
use mathlib.Core.Path.{◌≡◌, refl, sym, ap, ◌∙◌, subst}
use mathlib.Core.Bool.{Bool, true, false, not, ◌&&◌, ◌||◌, cond}
use mathlib.Core.List.{List, [], ◌∷◌, map}
use Prim.Native.Nat.{ℕ, zero, suc, ◌<◌}
use native.Mathlib.Nat.{not-suc-le-zero, le_of_suc-le-suc}
use native.Mathlib.Omega.{arith}
use lib.ListN.{length}
use lib.Dec.{T, eqb, eqb→eq, T_not, not_T}
use lib.Ieee.{Float, nan, inf, fin, binary32, binary64, of_bits, add, div, lt, le}
use lib.Ieee.Fits.{and_l, and_r, and_i}
use borrow.Author.Tests.{eq-eqb, ne_eqb, eqb-true}
use lib.Ieee.Bits.{is_true, is_false}
use lib.Ieee.Positive.{positive, above, above_of_le}
use Rattle.std.specs.Prelude.{Option, None, Some}
use Rattle.laws.specs.Order.{total_order}
use Rattle.laws.specs.Lists.{passing}
use Rattle.laws.specs.Leader.{without, keys_met, Standing, nobody, leads}
use Rattle.laws.specs.Values.{plus_zero, epsilon, ordered, clear, nonneg}
use Rattle.laws.proofs.Leader.{has, has-met, has-passing, Leading, leads-rightly, somebody-leads}
use Rattle.laws.proofs.Order.{le_refl, le_trans, lt→le, lt_not_le, not-le→lt, not-lt→le, lt_of_le_of_lt}
use Rattle.laws.proofs.Nonneg.{nonneg→ordered, clear→ordered, positive→nonneg, add-mono, div-clear, div_mono}
use Rattle.laws.proofs.Convert.{convert-mono, convert-clear}
use Rattle.laws.proofs.Total.{total-order}
use Rattle.keys.specs.Numbers.{key_number}
use Rattle.timeline.specs.Segments.{segment_at}
use Rattle.timeline.specs.declared.segment.Segment.{Segment}
use Rattle.alternates.specs.Alternate.{instant, held_seconds, lasting, total_of, lasts_in, seconds_of, lasting_keys, rival_of, coverage_of, lacks, alternate, named_unless_lacking, alternate_of}
use Rattle.alternates.specs.Named.{Reaches, Rightly, NamedExactly}
use Rattle.alternates.specs.declared.alternate.Alternate.{Alternate}
use Rattle.longest.proofs.Lengths.{InFormat, order-ranks}
use Rattle.alternates.proofs.Sums.{total-is, part_of, seconds-amount}

-- ---- more seconds, more coverage
lacks-mono : (threshold all d e : Float) → T (positive all) → T (clear d) → T (clear e) → T (le d e) → T (lacks threshold (coverage_of all e)) → T (lacks threshold (coverage_of all d))
unfolding lacks coverage_of
lacks-mono threshold all d e p c c' h t =
    let part = div-clear binary64 d all c p in
    let part' = div-clear binary64 e all c' p in
    let covered = convert-mono binary32 (div binary64 d all) (div binary64 e all) (div_mono binary64 d e all all c c' p p h (le_refl all (nonneg→ordered all (positive→nonneg all p)))) in
    lt_of_le_of_lt (add binary32 (coverage_of all d) epsilon) (add binary32 (coverage_of all e) epsilon) threshold
    (add-mono binary32 (coverage_of all d) (coverage_of all e) epsilon epsilon (convert-clear binary32 (div binary64 d all) part) (convert-clear binary32 (div binary64 e all) part') (unfold of_bits in tt) (unfold of_bits in tt) covered (unfold of_bits le in tt)) t

positive-total : (all : Float) → T (nonneg all) → T (not (le all instant)) → T (positive all)
unfolding of_bits
positive-total all p n = go all p (above_of_le instant all tt (lt→le instant all (not-le→lt instant all tt (nonneg→ordered all p) n)))
  where
    go : (x : Float) → T (nonneg x) → T (above x) → T (positive x)
    go nan p a = p
    go (inf s) p a = p
    go (fin true m e) p a = p
    go (fin false m e) p a = a

-- the total order of numbers is by value
by_value : (x y : Float) → T (clear x) → T (clear y) → T (total_order x y) → T (le x y)
by_value x y c d h =
    not-lt→le y x (clear→ordered y d) (clear→ordered x c)
    (not_T (lt y x) (λ less. subst T ((total-order binary64).by_value y x less).1 h))

none-some : {key : ℕ} {coverage : Float} → None ≡ Some (alternate key coverage) → ⊥
none-some e = let z : ◌≡◌ {A = ℕ} 0 1 = cc in omega arith

-- what a named answer tells: a key leads, and its coverage does not lack
record Led (threshold total : Float) (s : Standing Float) (key : ℕ) (coverage : Float) : Type 0 where
  sum : Float
  leading : s ≡ leads key sum
  enough : lacks threshold (coverage_of total sum) ≡ false
  covers : coverage ≡ coverage_of total sum

led : (threshold total : Float) (s : Standing Float) (key : ℕ) (coverage : Float) → named_unless_lacking threshold total s ≡ Some (alternate key coverage) → Led threshold total s key coverage
led threshold total nobody key coverage e = absurd (none-some e)
led threshold total (leads k sum) key coverage e = decided (lacks threshold (coverage_of total sum)) refl e
  where
    decided : (b : Bool) → lacks threshold (coverage_of total sum) ≡ b → cond b None (Some (alternate k (coverage_of total sum))) ≡ Some (alternate key coverage) → Led threshold total (leads k sum) key coverage
    decided true q e = absurd (none-some e)
    decided false q e =
        let same : alternate k (coverage_of total sum) ≡ alternate key coverage = cc in
        record { sum = sum; leading = ap (λ (a : Alternate). leads a.key sum) same; enough = q; covers = sym (ap (λ (a : Alternate). a.coverage) same) }

opened : (a b c : Bool) {x : Option Alternate} {key : ℕ} {coverage : Float} → cond (a || b) None (cond c None x) ≡ Some (alternate key coverage) → T (not a) × (x ≡ Some (alternate key coverage))
opened true b c e = absurd (none-some e)
opened false true c e = absurd (none-some e)
opened false false true e = absurd (none-some e)
opened false false false e = (tt, e)

-- ---- keys that have a lasting segment
key-lasting : (key : ℕ) (segments : List Segment) → T (has key (lasting_keys segments)) → (place : ℕ) × (place < length segments) × (lasts_in key (segment_at segments place) ≡ true)
unfolding lasting_keys passing has lasts_in
key-lasting key [] t = absurd t
key-lasting key (s ∷ segments) t = either (λ u. later (key-lasting key segments u)) (lasting s) refl (eqb key (key_number s.key)) refl t
  where
    later : (place : ℕ) × (place < length segments) × (lasts_in key (segment_at segments place) ≡ true) → (place : ℕ) × (place < suc (length segments)) × (lasts_in key (segment_at (s ∷ segments) place) ≡ true)
    later at = (suc at.0, omega (arith, at.1), at.2)

    either : (T (has key (lasting_keys segments)) → (place : ℕ) × (place < suc (length segments)) × (lasts_in key (segment_at (s ∷ segments) place) ≡ true)) → (a : Bool) → lasting s ≡ a → (b : Bool) → eqb key (key_number s.key) ≡ b → T (has key (map (λ (x : Segment). key_number x.key) (cond a (s ∷ passing lasting segments) (passing lasting segments)))) → (place : ℕ) × (place < suc (length segments)) × (lasts_in key (segment_at (s ∷ segments) place) ≡ true)
    either rest true d true e t = (0, omega arith, rw (d, eq-eqb _ _ (sym (eqb-true _ _ e))))
    either rest true d false e t = rest (rw e at t)
    either rest false d b e t = rest t

lasting-key : (key : ℕ) (segments : List Segment) (place : ℕ) → place < length segments → lasts_in key (segment_at segments place) ≡ true → T (has key (lasting_keys segments))
unfolding lasting_keys passing has lasts_in
lasting-key key [] place h e = absurd (not-suc-le-zero h)
lasting-key key (s ∷ segments) zero h e =
    let both = subst T (sym e) tt in
    rw (is_true (lasting s) (and_l (lasting s) _ both), eq-eqb key (key_number s.key) (sym (eqb→eq _ key (and_r (lasting s) _ both)))) tt
lasting-key key (s ∷ segments) (suc place) h e = either (lasting s) (eqb key (key_number s.key)) refl (lasting-key key segments place (le_of_suc-le-suc h) e)
  where
    either : (a b : Bool) → eqb key (key_number s.key) ≡ b → T (has key (lasting_keys segments)) → T (has key (map (λ (x : Segment). key_number x.key) (cond a (s ∷ passing lasting segments) (passing lasting segments))))
    either true true d t = rw d tt
    either true false d t = rw d t
    either false b d t = t

module _ (reported : ℕ) (segments : List Segment) where
  -- the other keys, in the order in which they are first met
  abbrev rivals : List ℕ
  rivals = keys_met (without reported (lasting_keys segments))

  has-rival : (key : ℕ) → has key rivals ≡ (has key (lasting_keys segments) && not (eqb key reported))
  unfolding without
  has-rival key = has-met key (without reported (lasting_keys segments)) ∙ has-passing _ key (lasting_keys segments)

  -- a key's lasting segment, where the key is not the reported one, makes it a rival
  rival-at : (key place : ℕ) → place < length segments → eqb key reported ≡ false → lasts_in key (segment_at segments place) ≡ true → T (has key rivals)
  rival-at key place there other lasts =
      subst T (sym (has-rival key)) (and_i (has key (lasting_keys segments)) (not (eqb key reported)) (lasting-key key segments place there lasts) (subst (λ (b : Bool). T (not b)) (sym other) tt))

  -- and back
  lasts-at : (key : ℕ) → T (has key rivals) → (eqb key reported ≡ false) × ((place : ℕ) × (place < length segments) × (lasts_in key (segment_at segments place) ≡ true))
  lasts-at key t =
      let l = has key (lasting_keys segments) in
      let both = subst T (has-rival key) t in
      (is_false _ (and_r l _ both), key-lasting key segments (and_l l _ both))

  abbrev Leader : ℕ → Float → Type 0
  Leader = Leading total_order (seconds_of segments) (λ (j : ℕ). has j rivals)

  leader : (key : ℕ) (sum : Float) → rival_of reported segments ≡ leads key sum → Leader key sum
  unfolding rival_of
  leader = leads-rightly total_order InFormat order-ranks (seconds_of segments) (λ k. (seconds-amount segments k).in_format) rivals

  -- no key that reaches a threshold has more seconds than the leader
  leads-most : (threshold : Float) (key : ℕ) (sum : Float) → Leader key sum → (j : ℕ) → Reaches reported threshold segments j → T (le (seconds_of segments j) (seconds_of segments key))
  leads-most threshold key sum l j r =
      by_value (seconds_of segments j) (seconds_of segments key) (seconds-amount segments j).plus (seconds-amount segments key).plus
      (subst (λ (x : Float). T (total_order (seconds_of segments j) x)) l.own_amount (l.most j (rival-at j r.place r.there r.other r.lasts)))

  -- where a key has a lasting segment, all seconds together are above an instant
  above-instant : (key place : ℕ) → place < length segments → lasts_in key (segment_at segments place) ≡ true → T (not (le (total_of segments) instant))
  unfolding lasts_in lasting
  above-instant key place there lasts =
      let s = segment_at segments place in
      let long = and_l (lasting s) (eqb (key_number s.key) key) (subst T (sym lasts) tt) in
      let part = subst (λ (x : Float). T (le (held_seconds s) x)) (sym (total-is segments (omega (arith, there)))) (part_of segments place (length segments) there) in
      not_T (le (total_of segments) instant) (λ h. T_not (le (held_seconds s) instant) long (le_trans (held_seconds s) (total_of segments) instant part h))

module _ (reported : ℕ) (threshold : Float) (segments : List Segment) (o : T (ordered threshold)) (p : T (nonneg (total_of segments))) where
  rightly : (key : ℕ) (coverage : Float) → alternate_of reported threshold segments ≡ Some (alternate key coverage) → Rightly reported threshold segments key coverage
  unfolding alternate_of
  rightly key coverage e =
      let shut = opened (le threshold plus_zero) (eqb (length segments) 0) (le (total_of segments) instant) e in
      let d = led threshold (total_of segments) (rival_of reported segments) key coverage shut.1 in
      let l = leader reported segments key d.sum d.leading in
      let own = lasts-at reported segments key l.there in
      record {
        above_zero = not-le→lt plus_zero threshold tt o shut.0;
        reaches = record {
          other = own.0;
          place = own.1.0;
          there = own.1.1;
          lasts = own.1.2;
          enough = ap (λ (x : Float). lacks threshold (coverage_of (total_of segments) x)) (sym l.own_amount) ∙ d.enough;
        };
        covers = d.covers ∙ ap (coverage_of (total_of segments)) l.own_amount;
        most = leads-most reported segments threshold key d.sum l;
      }

  somebody : T (lt plus_zero threshold) → (key : ℕ) → Reaches reported threshold segments key → (k : ℕ) × (c : Float) × (alternate_of reported threshold segments ≡ Some (alternate k c))
  unfolding alternate_of
  somebody above key r = found (rival_of reported segments) refl
    where
      long : T (not (le (total_of segments) instant))
      long = above-instant reported segments key r.place r.there r.lasts

      passed : (x : Option Alternate) → cond (le threshold plus_zero || eqb (length segments) 0) None (cond (le (total_of segments) instant) None x) ≡ x
      passed x = rw (is_false (le threshold plus_zero) (not_T (le threshold plus_zero) (λ h. lt_not_le plus_zero threshold above h)), ne_eqb (length segments) 0 (λ none. omega (arith, none, r.there)), is_false (le (total_of segments) instant) long)

      found : (s : Standing Float) → rival_of reported segments ≡ s → (k : ℕ) × (c : Float) × (alternate_of reported threshold segments ≡ Some (alternate k c))
      found nobody e = absurd (somebody-leads total_order InFormat order-ranks (seconds_of segments) (λ k. (seconds-amount segments k).in_format) (rivals reported segments) key (rival-at reported segments key r.place r.there r.other r.lasts) (unfold rival_of in e))
      found (leads k sum) e =
          let l = leader reported segments k sum e in
          let all = total_of segments in
          let enough : lacks threshold (coverage_of all sum) ≡ false = is_false _ (not_T (lacks threshold (coverage_of all sum)) (λ t.
          subst T r.enough (lacks-mono threshold all (seconds_of segments key) (seconds_of segments k) (positive-total all p long) (seconds-amount segments key).plus (seconds-amount segments k).plus (leads-most reported segments threshold k sum l key r) (subst (λ (x : Float). T (lacks threshold (coverage_of all x))) l.own_amount t)))) in
          (k, coverage_of all sum, passed _ ∙ ap (named_unless_lacking threshold all) e ∙ ap (λ (b : Bool). cond b None (Some (alternate k (coverage_of all sum)))) enough)

pub named-exactly : NamedExactly
named-exactly reported threshold segments o p = record { only = rightly reported threshold segments o p; whenever = somebody reported threshold segments o p }
