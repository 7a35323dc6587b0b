-- What the calls ensure, put together.
use mathlib.Core.Path.{ap₂}
use Prim.Native.Nat.{◌+◌}
use lib.Ieee.{Float}
use Rattle.timeline.specs.Segments.{segment, joined}
use Rattle.timeline.proofs.segment.Segment.joined.Goals as goal

pub returns : goal.returns
unfolding joined
returns c =
    let args = c.args in
    ap₂ (λ (x y : Float). segment x y args.self.key args.self.confidence (args.self.windows + args.later.windows)) c.smaller.ensures c.larger.ensures
