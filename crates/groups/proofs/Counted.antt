-- The groups cut off so far rest on as many estimates as stand before the group that is being gathered.
use Rattle.std.proofs.Common.{◌≡◌, ℕ, suc, ◌+◌, ◌-◌, ◌≤◌, eqb, List, [], ◌∷◌, ◌++◌, length, drop, sym, refl, arith, eqb→eq, length-drop, length-take-le}
use lib.Ieee.{Float}
use Rattle.laws.specs.Values.{plus_zero}
use Rattle.laws.proofs.Cases.{by-test}
use Rattle.laws.proofs.Turns.{turns-keep}
use Rattle.timeline.specs.Counts.{total_windows}
use Rattle.timeline.specs.declared.estimate.Estimate.{Estimate}
use Rattle.timeline.specs.declared.segment.Segment.{Segment}
use Rattle.timeline.proofs.Counts.{total-append}
use Rattle.splits.specs.Splits.{splits, border_of}
use Rattle.groups.specs.Groups.{estimate_at, group_of, first_segments}
use Rattle.groups.specs.Counted.{GroupsCount}
use Rattle.groups.proofs.Loop.{group_from, Cutting, cutting, cut_turn, closed, cut_at, groups-loop}

module _ (threshold : Float) (found : List Estimate) where
  group-counts : (from to : ℕ) (start end : Float) → to ≤ length found → (group_from found from to start end).windows ≡ to - from
  unfolding group_of
  group-counts from to start end h = length-take-le (to - from) (drop from found) (rw length-drop (omega arith))

  -- one more group behind them
  counts-more : (done : List Segment) (from to : ℕ) (start end : Float) → total_windows done ≡ from → from ≤ to → to ≤ length found → total_windows (done ++ (group_from found from to start end ∷ [])) ≡ to
  unfolding total_windows
  counts-more done from to start end before h k =
      let sum = total-append done (group_from found from to start end ∷ []) in
      omega (arith, sum, before, group-counts from to start end k)

  -- what cutting has come to at estimate j
  record Upto (j : ℕ) (c : Cutting) : Type 0 where
    counted : total_windows c.done ≡ c.from
    behind : c.from ≤ j

  upto-start : Upto 0 (cutting [] 0 plus_zero)
  unfolding total_windows
  upto-start = record { counted = refl; behind = omega arith }

  upto-more : (j : ℕ) (c : Cutting) → (j ≤ length found → Upto j c) → suc j ≤ length found → Upto (suc j) (cut_turn threshold found j c)
  unfolding cut_turn
  upto-more j c before h =
      let u = before (omega arith) in
      by-test (Upto (suc j)) (splits threshold (estimate_at found j) (estimate_at found (j + 1)))
      (λ _. record { counted = counts-more c.done c.from (j + 1) c.start (border_of (estimate_at found j) (estimate_at found (j + 1))) u.counted (omega (arith, u.behind)) (omega arith); behind = omega arith })
      (λ _. record { counted = u.counted; behind = omega (arith, u.behind) })

  upto : (n : ℕ) → n ≤ length found → Upto n (cut_at threshold found n)
  upto = turns-keep (λ (n : ℕ) (c : Cutting). n ≤ length found → Upto n c) (cut_turn threshold found) (cutting [] 0 plus_zero) (λ _. upto-start) upto-more

  closed-counts : (duration : Float) → total_windows (closed found duration (cut_at threshold found (length found - 1))) ≡ length found
  closed-counts duration =
      let c = cut_at threshold found (length found - 1) in
      let u = upto (length found - 1) (omega arith) in
      counts-more c.done c.from (length found) c.start duration u.counted (omega (arith, u.behind)) (omega arith)

pub groups-count : GroupsCount
unfolding first_segments total_windows
groups-count threshold duration key confidence found =
    by-test (λ (segments : List Segment). total_windows segments ≡ length found) (eqb (length found) 0)
    (λ none. sym (eqb→eq (length found) 0 none))
    (λ _. rw (groups-loop threshold found duration) (closed-counts threshold found duration))
