-- Votes counted number by number: what the votes, the order of meeting and the marks of the known keys hold after i numbers.
use mathlib.Core.Path.{◌≡◌, refl, sym, ap, ◌∙◌, subst}
use mathlib.Core.Bool.{Bool, true, false, cond}
use mathlib.Core.List.{List, [], ◌∷◌, ◌++◌}
use Prim.Native.Nat.{ℕ, suc, ◌+◌, ◌<◌, ◌≤◌}
use native.Mathlib.Omega.{arith}
use lib.Dec.{T, eqb, leb, leb-zero}
use lib.ListN.{length, get_or, set, replicate, length-append}
use borrow.Author.Tests.{eq-eqb, ne_eqb}
use Rattle.laws.specs.Front.{front, list}
use Rattle.laws.specs.Lists.{passing, fold}
use Rattle.laws.specs.Leader.{keys_met, nobody, leads, leading_key, outdone, last_largest}
use Rattle.laws.proofs.Front.{length-list, list-more, list-own, list_set, replicate-list, get_or-list}
use Rattle.laws.proofs.Lists.{passing-more, passing-less}
use Rattle.laws.proofs.Leader.{has, has-met, has-place, fold_same}
use Rattle.laws.proofs.Meeting.{Meets, meets-start, new-fits, meets-new, meets-known, met-few, met-back, met-below}
use Rattle.timeline.specs.inside.Estimates.{Numbered}
use Rattle.majorities.specs.Majority.{votes_of, majority_of}
use Rattle.majorities.specs.inside.Tally.{tally, tally_of, most_voted}
use Rattle.majorities.specs.declared.majority.Tally.{Tally}

-- ---- one number more
votes-more : (numbers : List ℕ) (key : ℕ) → votes_of (numbers ++ (key ∷ [])) key ≡ votes_of numbers key + 1
unfolding votes_of
votes-more numbers key = rw (passing-more (λ (k : ℕ). eqb k key) numbers key (eq-eqb key key refl), length-append)

votes-other : (numbers : List ℕ) (key j : ℕ) → (j ≡ key → ⊥) → votes_of numbers j ≡ votes_of (numbers ++ (key ∷ [])) j
unfolding votes_of
votes-other numbers key j apart = rw (passing-less (λ (k : ℕ). eqb k j) numbers key (ne_eqb key j (λ e. apart (sym e))))

votes-few : (numbers : List ℕ) (key : ℕ) → votes_of numbers key ≤ length numbers
unfolding votes_of passing
votes-few [] key = omega arith
votes-few (k ∷ ks) key = either (eqb k key) (votes-few ks key)
  where
    either : (b : Bool) → length (passing (λ (j : ℕ). eqb j key) ks) ≤ length ks → length (cond b (k ∷ passing (λ (j : ℕ). eqb j key) ks) (passing (λ (j : ℕ). eqb j key) ks)) ≤ suc (length ks)
    either true h = omega (arith, h)
    either false h = omega (arith, h)

-- the first i numbers
abbrev pub seen : List ℕ → ℕ → List ℕ
seen numbers i = list (λ (j : ℕ). get_or numbers j 0) i

-- what stands there after i numbers
pub record Counted (numbers votes order : List ℕ) (known : List Bool) (met i : ℕ) : Type 0 where
  pub within : i ≤ length numbers
  pub votes_are : votes ≡ list (votes_of (seen numbers i)) 24
  pub meets : Meets 24 (seen numbers i) order known met

module _ (numbers : List ℕ) where
  pub counted_start : Counted numbers (replicate 24 0) (replicate 24 0) (replicate 24 false) 0 0
  unfolding list votes_of passing
  counted_start = record { within = omega arith; votes_are = replicate-list 24 0; meets = meets-start 24 }

  module _ (votes order : List ℕ) (known : List Bool) (met i : ℕ) (c : Counted numbers votes order known met i) (inside : i < length numbers) (below : get_or numbers i 0 < 24) where
    abbrev key : ℕ
    key = get_or numbers i 0

    pub votes-at : get_or votes key 0 ≡ votes_of (seen numbers i) key
    votes-at = ap (λ (l : List ℕ). get_or l key 0) c.votes_are ∙ get_or-list (votes_of (seen numbers i)) 24 key 0 below

    voted : set votes key (get_or votes key 0 + 1) ≡ list (votes_of (seen numbers (i + 1))) 24
    voted =
        rw (list-more (λ (j : ℕ). get_or numbers j 0) i, votes-at, c.votes_are)
        (list_set (votes_of (seen numbers i)) (votes_of (seen numbers i ++ (key ∷ []))) 24 key _ below (sym (votes-more (seen numbers i) key)) (votes-other (seen numbers i) key))

    pub unmet-fits : (d : Bool) → get_or known key d ≡ false → met < 24
    unmet-fits = new-fits 24 (seen numbers i) order known met c.meets key below

    pub counted-new : (d : Bool) → get_or known key d ≡ false → Counted numbers (set votes key (get_or votes key 0 + 1)) (set order met key) (set known key true) (met + 1) (i + 1)
    counted-new d new =
        record {
          within = omega (arith, inside);
          votes_are = voted;
          meets = rw (list-more (λ (j : ℕ). get_or numbers j 0) i) (meets-new 24 (seen numbers i) order known met c.meets key below d new);
        }

    pub counted-known : (d : Bool) → get_or known key d ≡ true → Counted numbers (set votes key (get_or votes key 0 + 1)) order known met (i + 1)
    counted-known d old =
        record {
          within = omega (arith, inside);
          votes_are = voted;
          meets = rw (list-more (λ (j : ℕ). get_or numbers j 0) i) (meets-known 24 (seen numbers i) order known met c.meets key below d old);
        }

    pub votes-fit : get_or votes key 0 ≤ i
    votes-fit = subst (λ (n : ℕ). n ≤ i) (sym votes-at) (omega (arith, votes-few (seen numbers i) key, length-list (λ (j : ℕ). get_or numbers j 0) i))

  -- once all are counted
  pub counted-all : (votes order : List ℕ) (known : List Bool) (met i : ℕ) → Counted numbers votes order known met i → length numbers ≤ i → tally votes order met ≡ tally_of numbers
  unfolding tally_of
  counted-all votes order known met i c h =
      let all : i ≡ length numbers = omega (arith, h, c.within) in
      let own : seen numbers i ≡ numbers = ap (seen numbers) all ∙ list-own numbers 0 in
      λ k. tally ((c.votes_are ∙ ap (λ (l : List ℕ). list (votes_of l) 24) own) k) ((c.meets.order_is ∙ ap (λ (l : List ℕ). front (keys_met l) (replicate 24 0)) own) k) ((c.meets.met_is ∙ ap (λ (l : List ℕ). length (keys_met l)) own) k)

-- ---- the lead
-- whoever comes first takes the lead from 0 votes
pub from_zero : (amount_of : ℕ → ℕ) (keys : List ℕ) → leading_key 0 (fold (outdone leb amount_of) (leads 0 0) keys) ≡ leading_key 0 (fold (outdone leb amount_of) nobody keys)
unfolding fold
from_zero amount_of [] = refl
from_zero amount_of (key ∷ keys) = rw (leb-zero (amount_of key))

module _ (numbers : List ℕ) (numbered : Numbered numbers (length numbers)) where
  has-below : (k : ℕ) → T (has k numbers) → k < 24
  has-below k t = let at = has-place k numbers t in subst (λ (n : ℕ). n < 24) at.2 (numbered at.0 at.1)

  pub tally-fits : {t : Tally} → t ≡ tally_of numbers → (t.met ≤ 24) × (t.met ≤ length t.order) × Numbered t.order t.met
  unfolding tally_of
  tally-fits e = rw e (met-few 24 numbers numbered, rw length-append (omega arith), λ j h. met-below numbers (replicate 24 0) 24 has-below j 0 h)

  pub told-rightly : {t : Tally} → t ≡ tally_of numbers → most_voted t ≡ majority_of numbers
  unfolding tally_of most_voted majority_of last_largest
  told-rightly e =
      rw (e, met-back numbers (replicate 24 0))
      (ap (leading_key 0) (fold_same leb _ (votes_of numbers) (keys_met numbers) (λ k t. get_or-list (votes_of numbers) 24 k 0 (has-below k (subst T (has-met k numbers) t))) nobody))
