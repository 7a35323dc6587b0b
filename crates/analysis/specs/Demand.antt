-- Demand 3 on a whole analysis: of the segments that it leaves in their rows, of the key that it reports and of the alternate; and on how many windows the segments rest. Definitions and the statements.
use Rattle.std.specs.Prelude.{◌≡◌, ℕ, ◌<◌, List, length, T, Float}
use Rattle.std.specs.Float.Ieee.{lt}
use Rattle.laws.specs.Values.{plus_zero}
use Rattle.keys.specs.Numbers.{key_number}
use Rattle.calls.specs.Call.{Call, Typed}
use Rattle.timeline.specs.Segments.{segment_at, segments_in}
use Rattle.timeline.specs.Counts.{total_windows}
use Rattle.timeline.specs.Tiling.{Tiles, NoneShort}
use Rattle.timeline.specs.declared.segment.Segment.{Segment}
use Rattle.windows.specs.Span.{span_of}
use Rattle.longest.specs.Longest.{Longest}
use Rattle.alternates.specs.Named.{Reaches, Rightly}
use Rattle.rooms.specs.Lent.{Lent}
use Rattle.loud_frames.specs.Loud.{AnalyseOutcome}
use Rattle.analysis.specs.Analyse.{analysed}
use Rattle.answers.specs.declared.answer.AnalyseResult.{AnalyseResult}

-- the samples over the rate, in seconds
abbrev pub duration_of : Call → Float
duration_of c = (span_of c.settings (length c.samples)).duration

-- the segments that stand in their rows when the call has answered
abbrev pub segments_left : AnalyseOutcome → List Segment
segments_left o = segments_in o.lent.segments o.answer.segments

-- an alternate is answered exactly when the threshold is above zero and some key other than the reported one reaches it; else 24, with no coverage
pub record Alternating (threshold : Float) (r : AnalyseResult) (segments : List Segment) : Type 0 where
  pub only : r.alternate < 24 → Rightly r.key threshold segments r.alternate r.coverage
  pub whenever : T (lt plus_zero threshold) → (key : ℕ) → Reaches r.key threshold segments key → r.alternate < 24
  pub otherwise : (r.alternate < 24 → ⊥) → (r.alternate ≡ 24) × (r.coverage ≡ plus_zero)

-- of several segments the longest one's key is answered
abbrev pub LongestAnswered : AnalyseResult → List Segment → Type 0
LongestAnswered r segments = 1 < length segments → (i : ℕ) × Longest segments i × (r.key ≡ key_number (segment_at segments i).key)

-- the segments tile zero to the duration, none of several is short, the longest one's key is reported, and the alternate is named exactly when the coverage rule says
pub record Kept (c : Call) (r : AnalyseResult) (segments : List Segment) : Type 0 where
  pub tiles : Tiles (duration_of c) segments
  pub none_short : NoneShort c.settings.minimum_segment_seconds segments
  pub longest : LongestAnswered r segments
  pub alternate : Alternating c.settings.alternate_coverage_threshold r segments

-- demand 3: all that, whenever a key is reported
abbrev pub DemandThree : Call → AnalyseOutcome → Type 0
DemandThree c o = o.answer.key < 24 → Kept c o.answer (segments_left o)

-- it holds of every call, whatever is lent
abbrev pub AnalysisKeeps : Type 0
AnalysisKeeps = (c : Call) (l : Lent) → Typed c.settings → DemandThree c (analysed c l)

-- the segments' counts of windows sum to the estimates that the answer counts (02 §7)
abbrev pub WindowsCounted : AnalyseOutcome → Type 0
WindowsCounted o = total_windows (segments_left o) ≡ o.answer.estimates

-- so it is in every call, whatever is lent; an answer without a key counts none
abbrev pub AnalysisCounts : Type 0
AnalysisCounts = (c : Call) (l : Lent) → WindowsCounted (analysed c l)
