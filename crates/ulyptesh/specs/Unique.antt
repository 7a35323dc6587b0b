-- Two outcomes that the promise of an exported call allows for one input are equal: a statement for each call.
use Rattle.std.specs.Prelude.{◌≡◌, List, ℕ, Float}
use Rattle.calls.specs.Call.{Call}
use Rattle.calls.specs.Rows.{Rows}
use Rattle.rooms.specs.Lent.{Lent}
use Rattle.written.specs.Outcome.{BytesOutcome}
use Rattle.name_call.specs.KeyNames.{key_name_of}
use Rattle.chroma_calls.specs.declared.KeyResult.{KeyResult}
use Rattle.chroma_calls.specs.FromChroma.{ScoresOutcome, scores_call, key_call}
use Rattle.frames_call.specs.FramesOnly.{FramesOutcome, frames_only}
use Rattle.card_judge.specs.Analysed.{Analysis}
use Rattle.card_call.specs.Cards.{card_call}
use Rattle.card.specs.declared.layout.Header.{Header}
use Rattle.card_form.specs.Rows.{CardRows}
use Rattle.packed_call.specs.PackedCards.{packed_call}
use Rattle.read_call.specs.Reads.{ReadOutcome, read_call}
use Rattle.set_calls.specs.Sets.{CardSet, SetOutcome, add_call, remove_call}
use Rattle.interface.specs.Interface.{interface_number}
use Rattle.ulyptesh.specs.Analysis.{Promised}

-- any two outcomes that a promise allows are equal
abbrev pub OneOutcome : {O : Type 0} → (O → Type 0) → Type 0
OneOutcome {O} promise = (a b : O) → promise a → promise b → a ≡ b

-- of `ulyptesh_scores`, for every input
abbrev pub ScoresUnique : Type 0
ScoresUnique = (chroma places : List Float) → OneOutcome (λ (o : ScoresOutcome). o ≡ scores_call chroma places)

-- of `ulyptesh_key`, for every input
abbrev pub KeyUnique : Type 0
KeyUnique = (chroma : List Float) → OneOutcome (λ (o : KeyResult). o ≡ key_call chroma)

-- of `ulyptesh_write_key_name`, for every input
abbrev pub KeyNameUnique : Type 0
KeyNameUnique = (number : ℕ) (bytes : List ℕ) → OneOutcome (λ (o : BytesOutcome). o ≡ key_name_of number bytes)

-- of `ulyptesh_write_card`, for every input
abbrev pub CardUnique : Type 0
CardUnique = (analysis : Analysis) (bytes : List ℕ) → OneOutcome (λ (o : BytesOutcome). o ≡ card_call analysis bytes)

-- of `ulyptesh_write_packed_card`, for every input
abbrev pub PackedCardUnique : Type 0
PackedCardUnique = (header : Header) (rows : CardRows) (bytes : List ℕ) → OneOutcome (λ (o : BytesOutcome). o ≡ packed_call header rows bytes)

-- of `ulyptesh_read_card`, for every input
abbrev pub ReadUnique : Type 0
ReadUnique = (bytes : List ℕ) (rows : CardRows) → OneOutcome (λ (o : ReadOutcome). o ≡ read_call bytes rows)

-- of `ulyptesh_add_card`, for every input
abbrev pub AddUnique : Type 0
AddUnique = (card : List ℕ) (s : CardSet) → OneOutcome (λ (o : SetOutcome). o ≡ add_call card s)

-- of `ulyptesh_remove_card`, for every input
abbrev pub RemoveUnique : Type 0
RemoveUnique = (card : List ℕ) (s : CardSet) → OneOutcome (λ (o : SetOutcome). o ≡ remove_call card s)

-- of `ulyptesh_frames`, for every input
abbrev pub FramesUnique : Type 0
FramesUnique = (c : Call) (lent : Rows) → OneOutcome (λ (o : FramesOutcome). o ≡ frames_only c lent)

-- of `ulyptesh_analyse`, for every input
abbrev pub AnalyseUnique : Type 0
AnalyseUnique = (c : Call) (lent : Lent) → OneOutcome (Promised c lent)

-- of `ulyptesh_abi`, which takes no input
abbrev pub AbiUnique : Type 0
AbiUnique = OneOutcome (λ (o : ℕ). o ≡ interface_number)
