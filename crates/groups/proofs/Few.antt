-- A turn cuts off one segment at most, so there is a segment to each estimate at most, and one where there is none.
use Rattle.std.proofs.Common.{ℕ, suc, ◌+◌, ◌-◌, ◌≤◌, eqb, List, [], length, arith, length-append}
use lib.Ieee.{Float}
use Rattle.laws.specs.Values.{plus_zero}
use Rattle.laws.proofs.Cases.{by-test}
use Rattle.laws.proofs.Turns.{turns-keep}
use Rattle.keys.specs.declared.Key.{Key}
use Rattle.timeline.specs.declared.estimate.Estimate.{Estimate}
use Rattle.timeline.specs.declared.segment.Segment.{Segment}
use Rattle.splits.specs.Splits.{splits}
use Rattle.groups.specs.Groups.{estimate_at, first_segments}
use Rattle.groups.proofs.Loop.{Cutting, cutting, cut_turn, cut_at, groups-loop}

done-few : (threshold : Float) (found : List Estimate) (n : ℕ) → length (cut_at threshold found n).done ≤ n
done-few threshold found =
    turns-keep (λ (n : ℕ) (c : Cutting). length c.done ≤ n) (cut_turn threshold found) (cutting [] 0 plus_zero) (omega arith)
    (λ j c few. unfold cut_turn in by-test (λ (x : Cutting). length x.done ≤ suc j) (splits threshold (estimate_at found j) (estimate_at found (j + 1))) (λ _. simp length-append (omega (arith, few))) (λ _. omega (arith, few)))

pub segments-few : (threshold duration : Float) (key : Key) (confidence : Float) (found : List Estimate) → length (first_segments threshold duration key confidence found) ≤ length found - 1 + 1
unfolding first_segments
segments-few threshold duration key confidence found =
    by-test (λ (segments : List Segment). length segments ≤ length found - 1 + 1) (eqb (length found) 0) (λ _. omega arith) (λ _. rw (groups-loop threshold found duration) (simp length-append (omega (arith, done-few threshold found (length found - 1)))))
