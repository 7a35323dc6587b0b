-- What the call ensures, compared.
use mathlib.Core.Path.{ap}
use lib.Ieee.{Float, lt}
use Rattle.timeline.specs.inside.Segments.{short_in}
use Rattle.timeline.proofs.segment_rows.LentSegments.is_short.Goals as goal

pub returns : goal.returns
unfolding short_in lt
returns c = ap (λ (x : Float). lt x c.args.least) c.seconds.ensures
