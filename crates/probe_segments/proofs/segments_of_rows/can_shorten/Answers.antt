-- The first of both lists tell of the first rows.
use mathlib.Core.Path.{◌∙◌}
use Rattle.probe_segments.proofs.Segmenting.{numbers-taken, few-taken}
use Rattle.probe_segments.proofs.segments_of_rows.can_shorten.Goals as goal

pub returns : goal.returns
returns c =
    let args = c.args in
    rw (c.all_numbers.ensures ∙ numbers-taken args.keys.now args.count c.requires.0, c.few_windows.ensures ∙ few-taken args.counts.now args.count c.requires.1)
