-- Each number is where the definition has it, the minimum widened.
use mathlib.Core.Path.{ap}
use lib.Ieee.{Float}
use Rattle.reports.specs.inside.Rows.{track_of}
use Rattle.segments.specs.declared.fill.Track.{Track}
use Rattle.reports.proofs.report.track_of.Goals as goal

pub returns : goal.returns
unfolding track_of
returns c =
    let args = c.args in
    let track : Float → Track = λ least. record {
      threshold = args.settings.segment_confidence_threshold;
      minimum = least;
      duration = args.span.duration;
      key = args.verdict.key;
      confidence = args.verdict.confidence;
    } in
    ap track c.widen.ensures
