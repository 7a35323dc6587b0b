-- What `ulyptesh_write_packed_card` promises, as one definition of what it is given. Definitions only.
use Rattle.std.specs.Prelude.{List, ℕ}
use Rattle.card.specs.declared.layout.Header.{Header}
use Rattle.card_form.specs.Form.{card_for}
use Rattle.card_form.specs.Rows.{CardRows}
use Rattle.packed_cards.specs.Packed.{packed_meaning, packed_unwritable}
use Rattle.written.specs.Outcome.{BytesOutcome, written_as}

-- what is said of the whole track
abbrev pub header_from : ℕ → ℕ → ℕ → ℕ → ℕ → Header
header_from key dsp alternate coverage confidence = record { key = key; dsp = dsp; alternate = alternate; coverage = coverage; confidence = confidence }

-- the card of packed numbers
abbrev pub packed_card : Header → CardRows → List ℕ
packed_card h rows = card_for (packed_meaning h rows.ends rows.keys rows.confidences)

-- the card, or 11 for packed numbers that no card holds
abbrev pub packed_call : Header → CardRows → List ℕ → BytesOutcome
packed_call h rows bytes = written_as (packed_unwritable h rows) (packed_card h rows) bytes
