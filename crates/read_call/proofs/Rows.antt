-- Rows that are filled with a card's segments, one after the other.
use mathlib.Core.Path.{◌≡◌, refl, sym, ap, ◌∙◌, subst}
use mathlib.Core.List.{List, map}
use Prim.Native.Nat.{ℕ, ◌+◌, ◌≤◌, ◌<◌}
use native.Mathlib.Omega.{arith}
use lib.ListN.{length, set}
use Rattle.laws.specs.Front.{front, list}
use Rattle.laws.proofs.Front.{Filled, filled-start, filled_more, filled-to, length-list, map-list}
use Rattle.card.specs.Rules.{start_at}
use Rattle.card.specs.declared.layout.Layout.{Layout}
use Rattle.card.specs.declared.layout.Segment.{Segment}
use Rattle.card.proofs.Judged.{start-next}
use Rattle.card_form.specs.Rows.{CardRows, holding_card}

-- segment i is next, which starts at `previous`, and those before it stand in the rows
pub record Filling (at : ℕ → Segment) (count : ℕ) (before now : CardRows) (previous i : ℕ) : Type 0 where
  pub inside : i ≤ count
  pub chained : previous ≡ start_at (list at count) i
  pub starts : Filled (start_at (list at count)) before.starts now.starts i
  pub ends : Filled (λ (k : ℕ). (at k).end) before.ends now.ends i
  pub keys : Filled (λ (k : ℕ). (at k).key) before.keys now.keys i
  pub confidences : Filled (λ (k : ℕ). (at k).confidence) before.confidences now.confidences i

-- one entry more, whose value is known to be the definition's
one_entry : (f : ℕ → ℕ) (m₀ m : List ℕ) (i v : ℕ) → Filled f m₀ m i → i < length m₀ → v ≡ f i → Filled f m₀ (set m i v) (i + 1)
one_entry f m₀ m i v filled h e = subst (λ (x : ℕ). Filled f m₀ (set m i x) (i + 1)) (sym e) (filled_more f m₀ m i filled h)

module _ (l : Layout) (at : ℕ → Segment) (count : ℕ) (before : CardRows) where
  pub filling-start : Filling at count before before 0 0
  filling-start = record {
    inside = omega arith;
    chained = refl;
    starts = filled-start _ before.starts;
    ends = filled-start _ before.ends;
    keys = filled-start _ before.keys;
    confidences = filled-start _ before.confidences;
  }

  pub filling-more : {now : CardRows} {previous : ℕ} {s : Segment} (i : ℕ) → Filling at count before now previous i → i < count → s ≡ at i →
      (count ≤ length before.starts) × (count ≤ length before.ends) × (count ≤ length before.keys) × (count ≤ length before.confidences) →
      Filling at count before (record { starts = set now.starts i previous; ends = set now.ends i s.end; keys = set now.keys i s.key; confidences = set now.confidences i s.confidence }) s.end (i + 1)
  filling-more {now} {previous} {s} i f less e room = record {
    inside = omega (arith, less);
    chained = start-next l at count i less e;
    starts = one_entry _ before.starts now.starts i previous f.starts (omega (arith, room, less)) f.chained;
    ends = one_entry _ before.ends now.ends i s.end f.ends (omega (arith, room, less)) (ap (λ (t : Segment). t.end) e);
    keys = one_entry _ before.keys now.keys i s.key f.keys (omega (arith, room, less)) (ap (λ (t : Segment). t.key) e);
    confidences = one_entry _ before.confidences now.confidences i s.confidence f.confidences (omega (arith, room, less)) (ap (λ (t : Segment). t.confidence) e);
  }

  -- a column of the list of segments
  column : (f : Segment → ℕ) (m₀ m : List ℕ) (i : ℕ) → Filled (λ (k : ℕ). f (at k)) m₀ m i → i ≡ count → m ≡ front (map f (list at count)) m₀
  column f m₀ m i filled all = filled-to _ m₀ m i count filled all ∙ ap (λ (xs : List ℕ). front xs m₀) (sym (map-list f at count))

  pub filling-end : {now : CardRows} {previous i : ℕ} → Filling at count before now previous i → count ≤ i → now ≡ holding_card (list at count) before
  filling-end {now} {previous} {i} f done =
      let all : i ≡ count = omega (arith, f.inside, done) in
      let starts = filled-to _ before.starts now.starts i count f.starts all ∙ ap (λ (n : ℕ). front (list (start_at (list at count)) n) before.starts) (sym (length-list at count)) in
      let ends = column (λ (s : Segment). s.end) before.ends now.ends i f.ends all in
      let keys = column (λ (s : Segment). s.key) before.keys now.keys i f.keys all in
      let confidences = column (λ (s : Segment). s.confidence) before.confidences now.confidences i f.confidences all in
      rw (starts, ends, keys, confidences)
