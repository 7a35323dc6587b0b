-- A run over n segments that looks for the first that breaks a rule, wherever segment i, `at i`, is read from.
use mathlib.Core.Path.{◌≡◌, refl, sym, ap, ◌∙◌}
use mathlib.Core.Bool.{Bool, true, false}
use mathlib.Core.List.{List}
use Prim.Native.Nat.{ℕ, ◌+◌, ◌-◌, ◌≤◌, ◌<◌}
use native.Mathlib.Numerals.{add-one}
use native.Mathlib.Omega.{arith}
use lib.Dec.{eqb}
use lib.ListN.{length}
use Rattle.laws.specs.First.{first}
use Rattle.laws.specs.Front.{list}
use Rattle.laws.proofs.First.{first_start, first-again, first_out, first-end}
use Rattle.laws.proofs.Front.{length-list, get_or-list}
use Rattle.card.specs.Rules.{segment_broken, card_segment, start_at, broken_at, first_broken}
use Rattle.card.specs.declared.layout.Layout.{Layout}
use Rattle.card.specs.declared.layout.Segment.{Segment}

-- the search goes on from segment i, and `previous` is the end before it
pub record Judging (l : Layout) (at : ℕ → Segment) (n previous i : ℕ) : Type 0 where
  pub inside : i ≤ n
  pub goes_on : first (broken_at l (list at n)) (n - i) i ≡ first_broken l (list at n)
  pub chained : previous ≡ start_at (list at n) i

module _ (l : Layout) (at : ℕ → Segment) (n : ℕ) where
  abbrev ss : List Segment
  ss = list at n

  pub segments-count : length ss ≡ n
  segments-count = length-list at n

  pub segment-at : (i : ℕ) → i < n → card_segment ss i ≡ at i
  segment-at i h = get_or-list at n i _ h

  -- the end of segment i is where the next one starts
  pub start-next : {s : Segment} (i : ℕ) → i < n → s ≡ at i → s.end ≡ start_at ss (i + 1)
  start-next {s} i h e = ap (λ (t : Segment). t.end) (e ∙ sym (segment-at i h)) ∙ ap (start_at ss) (sym (add-one i))

  pub judging-start : Judging l at n 0 0
  judging-start = record {
    inside = omega arith;
    goes_on = first_start (broken_at l ss) n ∙ ap (λ (k : ℕ). first (broken_at l ss) k 0) (sym segments-count);
    chained = refl;
  }

  -- in a turn: what was found of segment i
  module _ {flag : Bool} {s : Segment} {previous : ℕ} (i : ℕ) (j : Judging l at n previous i) (less : i < n) (e : s ≡ at i) (f : flag ≡ segment_broken l (eqb n 1) previous s) where
    told-broken : broken_at l ss i ≡ flag
    told-broken = rw (segments-count, segment-at i less, f, e, j.chained)

    pub judging-more : flag ≡ false → Judging l at n s.end (i + 1)
    judging-more good = record {
      inside = omega (arith, less);
      goes_on = first-again (broken_at l ss) n i j.goes_on less (told-broken ∙ good);
      chained = start-next i less e;
    }

    pub judging-out : flag ≡ true → i ≡ first_broken l ss
    judging-out bad = first_out (broken_at l ss) n i j.goes_on less (told-broken ∙ bad)

  pub judging-end : {previous i : ℕ} → Judging l at n previous i → n ≤ i → n ≡ first_broken l ss
  judging-end {previous} {i} j h =
      let all : n ≡ i = omega (arith, h, j.inside) in
      all ∙ first-end (broken_at l ss) n i j.goes_on h
