-- What the inverse means for the calls. The statements; proofs/Calls.antt proves them.
use Rattle.std.specs.Prelude.{◌≡◌, false, List, ℕ, ◌≤◌, length, take}
use Rattle.bits.specs.Bits.{AllBytes}
use Rattle.card_form.specs.Rows.{CardRows}
use Rattle.card_judge.specs.Analysed.{Analysis, meaning_of, unwritable}
use Rattle.card_call.specs.Cards.{card_of}
use Rattle.packed_call.specs.PackedCards.{header_from, packed_call}
use Rattle.read_call.specs.Reads.{ReadOutcome, read_call}
use Rattle.card_reader.specs.Reading.{says, read_of}
use Rattle.written.specs.Outcome.{BytesOutcome, written_as}

-- the first n rows
abbrev pub first_rows : ℕ → CardRows → CardRows
first_rows n rows = record { starts = take n rows.starts; ends = take n rows.ends; keys = take n rows.keys; confidences = take n rows.confidences }

-- `ulyptesh_write_packed_card` of what `ulyptesh_read_card` answered, and of the rows that it wrote
abbrev pub again_call : ReadOutcome → List ℕ → BytesOutcome
again_call o =
    let a = o.answer in
    packed_call (header_from a.key a.dsp_key a.alternate a.coverage a.confidence) (first_rows a.segments o.rows)

-- a card that was read, written again, has the same bytes: too few lent bytes are refused, else it stands at their front
abbrev pub WrittenAgain : Type 0
WrittenAgain = (bytes : List ℕ) → AllBytes bytes → (rows : CardRows) → (read_call bytes rows).answer.refusal ≡ 0 → (lent : List ℕ) → again_call (read_call bytes rows) lent ≡ written_as false bytes lent

-- the card of an analysis that a card holds is read as that analysis in packed numbers, where there are rows for its segments
abbrev pub AnalysedIsRead : Type 0
AnalysedIsRead =
    (a : Analysis) → unwritable a ≡ false → (rows : ℕ) → length a.ends ≤ rows → read_of (card_of a) rows ≡ says (meaning_of a)
