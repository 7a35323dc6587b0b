-- What `ulyptesh_write_card` promises, as one definition of what it is given. Definitions only.
use Rattle.std.specs.Prelude.{List, ℕ, Float}
use Rattle.card_judge.specs.declared.analysed.Overall.{Overall}
use Rattle.card_form.specs.Form.{card_for}
use Rattle.card_judge.specs.Analysed.{Analysis, meaning_of, unwritable}
use Rattle.written.specs.Outcome.{BytesOutcome, written_as}

-- what is said of the whole track
abbrev pub overall : ℕ → ℕ → ℕ → Float → Float → Overall
overall key dsp alternate coverage confidence = record { key = key; dsp = dsp; alternate = alternate; coverage = coverage; confidence = confidence }

-- the card of an analysis
abbrev pub card_of : Analysis → List ℕ
card_of a = card_for (meaning_of a)

-- 11 for an analysis that no card holds and 12 for too few bytes leave the bytes as they are; else the card stands at their front
abbrev pub card_call : Analysis → List ℕ → BytesOutcome
card_call a bytes = written_as (unwritable a) (card_of a) bytes
