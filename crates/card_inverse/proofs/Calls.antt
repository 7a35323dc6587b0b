-- An outcome that is not refused tells a meaning, and its first rows are that meaning's.
use Rattle.std.specs.Prelude.{is_some}
use mathlib.Core.Path.{◌≡◌, refl, sym, ap, ◌∙◌}
use mathlib.Core.Bool.{false}
use mathlib.Core.List.{List}
use Prim.Native.Nat.{ℕ, ◌≤◌}
use native.Mathlib.Omega.{arith}
use lib.ListN.{length, take, length-map}
use lib.Seq.{take_at}
use Rattle.laws.specs.Front.{front}
use Rattle.laws.proofs.Front.{length-list}
use Rattle.bits.specs.Bits.{AllBytes}
use Rattle.card.specs.Rules.{start_at}
use Rattle.card.specs.declared.layout.Segment.{Segment}
use Rattle.card_form.specs.Rows.{CardRows, rows_in, rows_of, holding_card}
use Rattle.card_judge.specs.Analysed.{meaning_of, packed_at}
use Rattle.card_judge.proofs.Analyses.{written_in}
use Rattle.card_call.specs.Cards.{card_of}
use Rattle.packed_call.specs.PackedCards.{packed_call}
use Rattle.card_reader.specs.Reading.{Reading, refused, says, read_of}
use Rattle.read_call.specs.Reads.{unread, read_answer, outcome_of}
use Rattle.written.specs.Outcome.{written_as}
use Rattle.card_inverse.specs.Inverse.{IsCardOf}
use Rattle.card_inverse.specs.Calls.{first_rows, again_call, WrittenAgain, AnalysedIsRead}
use Rattle.card_inverse.proofs.Inverse.{read-is-written, written-is-read}
use Rattle.card_inverse.proofs.Numbers.{refusal-number}
use Rattle.card_inverse.proofs.Again.{packed-again}

-- what was written from the front is what stands there first
first_part : (xs m : List ℕ) (n : ℕ) → length xs ≡ n → take n (front xs m) ≡ xs
first_part xs m n size = take_at xs _ n size

first_rows_lem : (ss : List Segment) (rows : CardRows) → first_rows (length ss) (holding_card ss rows) ≡ rows_of ss
first_rows_lem ss rows =
    let starts = first_part (rows_of ss).starts rows.starts (length ss) (length-list (start_at ss) (length ss)) in
    let ends = first_part (rows_of ss).ends rows.ends (length ss) (length-map ss (λ (s : Segment). s.end)) in
    let keys = first_part (rows_of ss).keys rows.keys (length ss) (length-map ss (λ (s : Segment). s.key)) in
    let confidences = first_part (rows_of ss).confidences rows.confidences (length ss) (length-map ss (λ (s : Segment). s.confidence)) in
    rw (starts, ends, keys, confidences)

again : (bytes : List ℕ) → AllBytes bytes → (rows : CardRows) (r : Reading) → read_of bytes (rows_in rows) ≡ r → (outcome_of rows r).answer.refusal ≡ 0 → (lent : List ℕ) → again_call (outcome_of rows r) lent ≡ written_as false bytes lent
unfolding unread read_answer
again bytes bytewise rows (refused number) e none lent = let some : 20 ≤ number = refusal-number bytes (rows_in rows) number e in absurd (omega (arith, some, none))
again bytes bytewise rows (says m) e none lent =
    let card = (read-is-written bytes bytewise (rows_in rows) m e).0 in
    ap (λ (held : CardRows). packed_call m.header held lent) (first_rows_lem m.segments rows)
    ∙ packed-again m card.held lent
    ∙ ap (λ (content : List ℕ). written_as false content lent) (sym card.written)

pub written-again : WrittenAgain
written-again bytes bytewise rows none lent = again bytes bytewise rows (read_of bytes (rows_in rows)) refl none lent

pub analysed-is-read : AnalysedIsRead
analysed-is-read a w rows room =
    let card : IsCardOf (meaning_of a) (card_of a) = record { held = ap is_some (written_in a w).1; written = refl } in
    written-is-read (card_of a) rows (meaning_of a) card (rw (length-list (packed_at a.ends a.keys a.confidences) (length a.ends)) room)
