-- What the run over the windows leaves is filled into segments.
use mathlib.Core.Path.{ap, ◌∙◌}
use Rattle.gathering.specs.inside.Lent.{frames_lent}
use Rattle.timeline.specs.inside.Estimates.{Columns, estimates_in}
use Rattle.timeline.specs.inside.Lent.{estimates_lent, segments_lent}
use Rattle.segments.specs.inside.Fill.{filled_of}
use Rattle.segments.proofs.Locates.{prepared-run, run-needs, located-so}
use Rattle.segments.proofs.track.locate_segments.Goals as goal

pub fill_estimates-estimates-requires : goal.fill_estimates-estimates-requires
fill_estimates-estimates-requires c = prepared-run c.count_windows-windows.ensures c.requires

pub fill_segments-segments-requires : goal.fill_segments-segments-requires
fill_segments-segments-requires c =
    let args = c.args in
    rw c.columns.ensures (run-needs args.span (frames_lent args.frames) (estimates_lent args.found.now) c.count_windows-windows.ensures c.fill_estimates-estimates.ensures.written (segments_lent args.rows.now) c.requires)

pub returns-clause-located : goal.returns-clause-located
returns-clause-located c =
    let args = c.args in
    let before = segments_lent args.rows.now in
    let filled = c.fill_segments-segments.ensures.filled ∙ ap (λ (e : Columns). filled_of args.track (estimates_in e c.fill_estimates-estimates.result) before) c.columns.ensures in
    located-so args.span (frames_lent args.frames) (estimates_lent args.found.now) c.count_windows-windows.ensures c.fill_estimates-estimates.ensures.written args.track before filled
