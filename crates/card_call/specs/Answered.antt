-- From what an analysis answers to what a card is written from. Definitions only.
use Rattle.std.specs.Prelude.{take}
use Rattle.answers.specs.declared.answer.AnalyseResult.{AnalyseResult}
use Rattle.timeline.specs.Segments.{SegmentRows}
use Rattle.card_judge.specs.Analysed.{Analysis, analysis}
use Rattle.card_call.specs.Cards.{overall}

-- what the card of an answer is written from: what it says of the whole track, and as many of the first rows as it counts segments
abbrev pub card_of_answer : AnalyseResult → SegmentRows → Analysis
card_of_answer a rows =
    analysis (overall a.key a.dsp_key a.alternate a.coverage a.confidence)
    (take a.segments rows.starts) (take a.segments rows.ends) (take a.segments rows.keys) (take a.segments rows.confidences)
