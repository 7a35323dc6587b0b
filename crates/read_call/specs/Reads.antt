-- What `ulyptesh_read_card` promises, as one definition of what it is given. Definitions only.
use Rattle.std.specs.Prelude.{ℕ, List, length}
use Rattle.card.specs.Rules.{no_key}
use Rattle.card.specs.declared.layout.Header.{Header}
use Rattle.card_form.specs.Rows.{CardRows, rows_in, holding_card}
use Rattle.card_reader.specs.Reading.{Reading, refused, says, read_of}
use Rattle.read_call.specs.declared.CardRead.{CardRead}

-- a refusal's answer: its number, no key, zeros
unfoldable pub unread : ℕ → CardRead
unread number = record { refusal = number; key = no_key; dsp_key = no_key; alternate = no_key; coverage = 0; confidence = 0; segments = 0 }

-- the answer of a card that is read: what it says of the whole track, and how many segments it has
unfoldable pub read_answer : Header → ℕ → CardRead
read_answer h count =
    record { refusal = 0; key = h.key; dsp_key = h.dsp; alternate = h.alternate; coverage = h.coverage; confidence = h.confidence; segments = count }

-- what the call answers, and what it leaves in the lent rows
pub record ReadOutcome : Type 0 where
  pub answer : CardRead
  pub rows : CardRows

-- both together
abbrev pub read_outcome : CardRead → CardRows → ReadOutcome
read_outcome answer rows = record { answer = answer; rows = rows }

-- a refusal leaves the rows as they are; else the segments stand at their front
abbrev pub outcome_of : CardRows → Reading → ReadOutcome
outcome_of rows (refused number) = read_outcome (unread number) rows
outcome_of rows (says m) = read_outcome (read_answer m.header (length m.segments)) (holding_card m.segments rows)

-- what comes of bytes and lent rows
abbrev pub read_call : List ℕ → CardRows → ReadOutcome
read_call bytes rows = outcome_of rows (read_of bytes (rows_in rows))
