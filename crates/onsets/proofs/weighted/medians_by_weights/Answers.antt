-- A bin a turn; the work numbers end zeroed each time.
use mathlib.Core.Path.{refl, ap, ◌∙◌}
use native.Mathlib.Omega.{arith}
use mathlib.Core.List.{List}
use lib.Ieee.{Float}
use lib.ListN.{take}
use Rattle.laws.proofs.Front.{filled-start, filled_more, filled-whole}
use Rattle.medians.specs.Median.{median_of}
use Rattle.onsets.specs.Weighted.{weighted_medians}
use Rattle.medians.proofs.Zeroed.{zeroed-first}
use Rattle.onsets.proofs.Emptied.{emptied-start, emptied-again, written_back}
use Rattle.onsets.proofs.weighted.medians_by_weights.Goals as goal

pub loop-bin-init : goal.loop-bin-init
loop-bin-init c = (emptied-start _ _, filled-start _ _)

pub loop-bin-preserved : goal.loop-bin-preserved
loop-bin-preserved c =
    let median = c.select.ensures.median ∙ ap (λ (m : List Float). median_of (take c.args.count m)) c.weigh_bin.ensures ∙ ap median_of (written_back _ c.args.count _) in
    (emptied-again _ c.loop-bin.invariant.0 (omega arith) c.weigh_bin.ensures (zeroed-first _ (omega arith) c.select.ensures.zeroed), rw median (filled_more _ _ _ c.loop-bin.bin c.loop-bin.invariant.1 (omega arith)))

pub returns : goal.returns
unfolding weighted_medians
returns c = (filled-whole _ _ _ c.loop-bin.bin 12 c.loop-bin.invariant.1 (omega arith) refl, c.loop-bin.invariant.0.ended (omega arith))
