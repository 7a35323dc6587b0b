-- Rows that a struct of references lends. No promise names it. Definitions only.
use Rattle.std.specs.Prelude.{◌≡◌}
use Rattle.timeline.specs.Estimates.{EstimateRows, lent_estimates}
use Rattle.timeline.specs.Segments.{SegmentRows, lent_segments}
use Rattle.timeline.specs.inside.Estimates.{Columns, lent_columns}
use Rattle.timeline.specs.inside.Segments.{Stretches, lent_stretches}
use Rattle.timeline.specs.declared.columns.LentColumns.{LentColumns}
use Rattle.timeline.specs.declared.estimate_rows.LentEstimates.{LentEstimates}
use Rattle.timeline.specs.declared.segment_rows.LentSegments.{LentSegments}
use Rattle.timeline.specs.declared.stretches.LentStretches.{LentStretches}

-- what the references refer to
abbrev pub estimates_lent : LentEstimates → EstimateRows
estimates_lent r = lent_estimates r.centres.now r.keys.now r.confidences.now r.shapeless.now

abbrev pub segments_lent : LentSegments → SegmentRows
segments_lent r = lent_segments r.starts.now r.ends.now r.keys.now r.confidences.now r.counts.now

abbrev pub columns_lent : LentColumns → Columns
columns_lent c = lent_columns c.centres.now c.keys.now c.confidences.now

abbrev pub stretches_lent : LentStretches → Stretches
stretches_lent c = lent_stretches c.starts.now c.ends.now c.keys.now

-- the same slices, though what they hold may change
abbrev pub SameEstimates : LentEstimates → LentEstimates → Type 0
SameEstimates before after =
    (after.centres.ghost_name ≡ before.centres.ghost_name) × (after.keys.ghost_name ≡ before.keys.ghost_name) × (after.confidences.ghost_name ≡ before.confidences.ghost_name) × (after.shapeless.ghost_name ≡ before.shapeless.ghost_name)

abbrev pub SameSegments : LentSegments → LentSegments → Type 0
SameSegments before after =
    (after.starts.ghost_name ≡ before.starts.ghost_name) × (after.ends.ghost_name ≡ before.ends.ghost_name) × (after.keys.ghost_name ≡ before.keys.ghost_name) × (after.confidences.ghost_name ≡ before.confidences.ghost_name) × (after.counts.ghost_name ≡ before.counts.ghost_name)
