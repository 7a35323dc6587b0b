-- Each turn leaves the key at the rank as it was; among those left it is found by halves.
use mathlib.Core.Path.{ap, ◌∙◌}
use native.Mathlib.Omega.{arith}
use mathlib.Core.List.{List}
use lib.Ieee.{Float}
use lib.ListN.{length}
use lib.Seq.{take_all}
use Rattle.ranks.specs.inside.Search.{key_at_rank}
use Rattle.ranks.proofs.Found.{search-starts}
use Rattle.ranks.proofs.Kept.{narrowed-same, narrowed-more}
use Rattle.medians.proofs.find_key.Goals as goal

pub loop-turn-init : goal.loop-turn-init
loop-turn-init c = (search-starts _ _ _ c.requires (omega arith), narrowed-same _ _ _)

pub loop-turn-preserved : goal.loop-turn-preserved
loop-turn-preserved c =
    let turn = c.loop-turn in
    (c.narrow-sought.ensures.sought, narrowed-more turn.invariant.1 c.narrow-sought.ensures.narrowed)

pub returns : goal.returns
returns c =
    let ws = c.args.work.now in
    c.bisect.ensures ∙ c.loop-turn.invariant.1.same_key ∙ ap (λ (l : List Float). key_at_rank l c.args.rank) (take_all (length ws) ws (omega arith))
