-- Good segments from the front: those of a run break no rule by themselves, and every such run is within the good one.
use mathlib.Core.Path.{◌≡◌, refl, sym, ap, ◌∙◌}
use mathlib.Core.Bool.{Bool, true, false, ◌||◌, cond}
use Prim.Native.Nat.{ℕ, zero, suc, min, ◌≤◌, ◌<◌}
use native.Mathlib.Nat.{min-eq_left, min-le_right}
use native.Mathlib.Omega.{arith}
use lib.Dec.{eqb, leb, ltb}
use lib.ListN.{length}
use borrow.Author.Tests.{eq-eqb, ne_eqb, eqb-true, eqb-false}
use Rattle.laws.specs.Front.{list}
use Rattle.laws.proofs.First.{first-before, first-within, first-behind}
use Rattle.laws.proofs.Front.{length-list, take-list}
use Rattle.card.specs.Rules.{segment_broken, before, start_at, broken_at, first_broken}
use Rattle.card.specs.declared.layout.Layout.{Layout}
use Rattle.card.specs.declared.layout.Segment.{Segment}
use Rattle.card.proofs.Judged.{segments-count, segment-at}
use Rattle.card_mender.specs.Mending.{good_run}

-- a segment that breaks no rule among others breaks none alone
alone-too : (l : Layout) (alone : Bool) (previous : ℕ) (s : Segment) → segment_broken l false previous s ≡ false → segment_broken l alone previous s ≡ false
unfolding segment_broken
alone-too l false previous s good = good
alone-too l true previous s good = fewer-tests (leb s.end previous) (ltb l.last s.end) (ltb 23 s.key) (ltb 1000 s.confidence) good
  where
    fewer-tests : (a b c d : Bool) → ((a || b) || c) || d ≡ false → ((false || b) || c) || d ≡ false
    fewer-tests true b c d e = let z : ◌≡◌ {A = ℕ} 0 1 = cc in absurd (omega arith)
    fewer-tests false b c d e = e

module _ (l : Layout) (at : ℕ → Segment) where
  -- segment i of several, and whether it breaks a rule
  abbrev broken : Bool → ℕ → Bool
  broken alone i = segment_broken l alone (before 0 (λ (k : ℕ). (at k).end) i) (at i)

  start_is : (n i : ℕ) → i < n → start_at (list at n) i ≡ before 0 (λ (k : ℕ). (at k).end) i
  start_is n zero less = refl
  start_is n (suc i) less = ap (λ (s : Segment). s.end) (segment-at l at n i (omega (arith, less)))

  broken-is : (n i : ℕ) → i < n → broken_at l (list at n) i ≡ broken (eqb n 1) i
  broken-is n i less = rw (segments-count l at n, segment-at l at n i less, start_is n i less)

  -- the first n break no rule
  abbrev pub Good : ℕ → Type 0
  Good n = n ≤ first_broken l (list at n)

  -- of n that stand there, those before the first that breaks a rule, one by one
  good-each : (n k : ℕ) → k ≤ first_broken l (list at n) → (i : ℕ) → i < k → broken (eqb n 1) i ≡ false
  good-each n k run i less =
      let count = length-list at n in
      let within = first-within (broken_at l (list at n)) (length (list at n)) 0 in
      sym (broken-is n i (omega (arith, less, run, within, count))) ∙ first-before (broken_at l (list at n)) (length (list at n)) 0 i (omega arith) (omega (arith, less, run))

  each-good : (n k : ℕ) → k ≤ n → ((i : ℕ) → i < k → broken (eqb n 1) i ≡ false) → k ≤ first_broken l (list at n)
  each-good n k inside good =
      let count = length-list at n in
      first-behind (broken_at l (list at n)) (length (list at n)) k (omega (arith, inside, count)) (λ i less. broken-is n i (omega (arith, less, inside)) ∙ good i less)

  run_inside : (n : ℕ) → first_broken l (list at n) ≤ n
  run_inside n =
      let count = length-list at n in
      let within = first-within (broken_at l (list at n)) (length (list at n)) 0 in
      omega (arith, within, count)

  -- the first k of a run are one: alone, where k is 1, they may break fewer rules
  part-good : (n k : ℕ) → k ≤ first_broken l (list at n) → Good k
  part-good n k run = each-good k k (omega arith) (λ i less. either (eqb n 1) refl i less (good-each n k run i less))
    where
      either : (b : Bool) → eqb n 1 ≡ b → (i : ℕ) → i < k → broken b i ≡ false → broken (eqb k 1) i ≡ false
      either true one i less good =
          let only : k ≡ 1 = omega (arith, run_inside n, run, less, eqb-true n 1 one) in
          ap (λ (b : Bool). broken b i) (eq-eqb k 1 only) ∙ good
      either false several i less good = alone-too l (eqb k 1) (before 0 (λ (j : ℕ). (at j).end) i) (at i) good

  -- the first one tried alone
  abbrev pub lone : ℕ → ℕ
  lone n = first_broken l (list at (min 1 n))

  pub run_is : (n : ℕ) → good_run l (list at n) ≡ cond (eqb (first_broken l (list at n)) 0) (lone n) (first_broken l (list at n))
  unfolding good_run
  run_is n = rw (take-list at 1 n)

  module _ (n : ℕ) where
    abbrev chosen : Bool → ℕ
    chosen b = cond b (lone n) (first_broken l (list at n))

    pub run-within : good_run l (list at n) ≤ n
    run-within = rw (run_is n) (either (eqb (first_broken l (list at n)) 0))
      where
        either : (b : Bool) → chosen b ≤ n
        either true = let first = run_inside (min 1 n) in let few = min-le_right 1 n in omega (arith, first, few)
        either false = run_inside n

    pub run-good : Good (good_run l (list at n))
    run-good = rw (run_is n) (either (eqb (first_broken l (list at n)) 0))
      where
        either : (b : Bool) → Good (chosen b)
        either true = part-good (min 1 n) (lone n) (omega arith)
        either false = part-good n (first_broken l (list at n)) (omega arith)

    -- several good ones are within the first run
    several : (k : ℕ) → k ≤ n → Good k → 1 < k → k ≤ first_broken l (list at n)
    several k inside good more =
        let apart : eqb k 1 ≡ eqb n 1 = ne_eqb k 1 (λ one. omega (arith, one, more)) ∙ sym (ne_eqb n 1 (λ one. omega (arith, one, more, inside))) in
        each-good n k inside (λ i less. ap (λ (b : Bool). broken b i) (sym apart) ∙ good-each k k good i less)

    pub run-longest : (k : ℕ) → k ≤ n → Good k → k ≤ good_run l (list at n)
    run-longest zero inside good = omega arith
    run-longest (suc zero) inside good = rw (run_is n) (either (eqb (first_broken l (list at n)) 0) refl)
      where
        either : (b : Bool) → eqb (first_broken l (list at n)) 0 ≡ b → 1 ≤ chosen b
        either true none = rw (min-eq_left inside) good
        either false some = let above = eqb-false (first_broken l (list at n)) 0 some in omega (arith, above)
    run-longest (suc (suc k)) inside good = rw (run_is n) (either (eqb (first_broken l (list at n)) 0) refl)
      where
        long : suc (suc k) ≤ first_broken l (list at n)
        long = several (suc (suc k)) inside good (omega arith)

        either : (b : Bool) → eqb (first_broken l (list at n)) 0 ≡ b → suc (suc k) ≤ chosen b
        either true none = absurd (omega (arith, long, eqb-true (first_broken l (list at n)) 0 none))
        either false some = long
