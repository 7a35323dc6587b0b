-- No end on a card that is written from an analysis lies after the track's samples over its rate. The statements; proofs/Ends.antt proves them.
use Rattle.std.specs.Prelude.{◌≡◌, false, ℕ, ◌≤◌, ◌<◌, length}
use Rattle.calls.specs.Call.{Call, Typed}
use Rattle.rooms.specs.Lent.{Lent}
use Rattle.loud_frames.specs.Loud.{AnalyseOutcome}
use Rattle.analysis.specs.Analyse.{analysed}
use Rattle.card.specs.Layout.{Meaning, last_end}
use Rattle.card.specs.Rules.{card_segment}
use Rattle.card_judge.specs.Analysed.{Analysis, meaning_of, unwritable}
use Rattle.card_call.specs.Cards.{card_of}
use Rattle.card_call.specs.Answered.{card_of_answer}
use Rattle.card_reader.specs.Reading.{says, read_of}
use Rattle.card_ends.specs.Times.{Inside}

-- what the card of a call's outcome is written from
abbrev pub card_of_outcome : AnalyseOutcome → Analysis
card_of_outcome o = card_of_answer o.answer o.lent.segments

-- each end of a meaning lies inside the call's track
abbrev pub AllInside : Call → Meaning → Type 0
AllInside c m = (i : ℕ) → i < length m.segments → Inside (card_segment m.segments i).end c.settings.rate (length c.samples)

-- so does each end of the meaning that a card is written from: of every call, whatever is lent, and whatever its layout
abbrev pub EndsInside : Type 0
EndsInside =
    (c : Call) (lent : Lent) → Typed c.settings →
    let a = card_of_outcome (analysed c lent) in
    unwritable a ≡ false → AllInside c (meaning_of a)

-- and each end that a deck reads on that card, with rows for its segments
abbrev pub ReadInside : Type 0
ReadInside =
    (c : Call) (lent : Lent) → Typed c.settings →
    let a = card_of_outcome (analysed c lent) in
    unwritable a ≡ false → (rows : ℕ) → length a.ends ≤ rows → (m : Meaning) → read_of (card_of a) rows ≡ says m → AllInside c m

-- where a key is reported no end is too late for a card: the longest track ends where the last layout does
abbrev pub EndsHeld : Type 0
EndsHeld =
    (c : Call) (lent : Lent) → Typed c.settings → (analysed c lent).answer.key < 24 →
    let ss = (meaning_of (card_of_outcome (analysed c lent))).segments in
    (i : ℕ) → i < length ss → (card_segment ss i).end ≤ last_end
