-- From what the table says to the outcome of the call.
use Rattle.std.specs.Prelude.{Result, Ok, Err}
use mathlib.Core.Path.{◌≡◌, ap, ap₂, sym, ◌∙◌}
use mathlib.Core.List.{List}
use Prim.Native.Nat.{ℕ}
use Rattle.laws.specs.Front.{list}
use Rattle.laws.proofs.Front.{length-list}
use Rattle.bits.specs.Bits.{bits_of_bytes}
use Rattle.card.specs.declared.layout.Layout.{Layout}
use Rattle.card.specs.declared.layout.Header.{Header}
use Rattle.card_form.specs.Form.{header_on, count_on, segment_on}
use Rattle.card_form.specs.Rows.{CardRows, rows_in, holding_card}
use Rattle.card_reader.specs.declared.judge.CardError.{CardError}
use Rattle.card_reader.specs.Reading.{refusal_number, judged_of, read_as}
use Rattle.read_call.specs.Reads.{unread, read_answer, read_outcome, outcome_of, read_call}
use Rattle.read_call.specs.declared.CardRead.{CardRead}

module _ (bytes : List ℕ) (rows : CardRows) where
  abbrev bits : List ℕ
  bits = bits_of_bytes bytes

  -- the outcome of what the table says
  outcome-of : {j : Result Layout CardError} → judged_of bytes (rows_in rows) ≡ j → outcome_of rows (read_as bits j) ≡ read_call bytes rows
  outcome-of e = ap (λ (k : Result Layout CardError). outcome_of rows (read_as bits k)) (sym e)

  pub card-refused : {r : CardRead} (error : CardError) → judged_of bytes (rows_in rows) ≡ Err error → r ≡ unread (refusal_number error) → read_outcome r rows ≡ read_call bytes rows
  card-refused number e a = ap (λ (x : CardRead). read_outcome x rows) a ∙ outcome-of e

  pub card-read : {r : CardRead} {after : CardRows} {h : Header} {count : ℕ} (l : Layout) → judged_of bytes (rows_in rows) ≡ Ok l → count ≡ count_on l bits → h ≡ header_on l bits →
      r ≡ read_answer h count → after ≡ holding_card (list (segment_on l bits) count) rows → read_outcome r after ≡ read_call bytes rows
  card-read {r} {after} {h} {count} l e n header a held =
      let counted = length-list (segment_on l bits) (count_on l bits) in
      ap₂ read_outcome
      (a ∙ ap₂ read_answer header (n ∙ sym counted))
      (held ∙ ap (λ (k : ℕ). holding_card (list (segment_on l bits) k) rows) n)
      ∙ outcome-of e
