-- What the calls ensure, put together.
use mathlib.Core.Path.{ap}
use lib.Ieee.{Float, lt}
use Rattle.timeline.specs.Segments.{short}
use Rattle.timeline.proofs.segment.Segment.is_short.Goals as goal

pub returns : goal.returns
unfolding short lt
returns c = ap (λ (x : Float). lt x c.args.least) c.seconds.ensures
