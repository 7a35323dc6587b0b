-- The weights kept are lent for every bin.
use mathlib.Core.Path.{sym}
use Rattle.onsets.specs.Onsets.{weight_at}
use Rattle.onsets.proofs.Weighing.{kept-long, kept_back}
use Rattle.onsets.proofs.weighted.weighted_medians.Goals as goal

pub slice_bounds-medians_by_weights-end : goal.slice_bounds-medians_by_weights-end
slice_bounds-medians_by_weights-end c = sym (kept-long (weight_at c.args.energies.now) _ _ _ c.write_weights.ensures)

pub medians_by_weights-requires : goal.medians_by_weights-requires
medians_by_weights-requires c = (c.requires.0, c.requires.1, c.requires.2, c.requires.3, kept_back (weight_at c.args.energies.now) _ _ _ c.write_weights.ensures)

pub returns : goal.returns
returns c = c.medians_by_weights.ensures
