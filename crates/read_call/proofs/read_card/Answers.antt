-- Each arm is an outcome of what the table says.
use Rattle.std.proofs.Common.{rules}
use Rattle.std.specs.Prelude.{Result}
use mathlib.Core.Path.{◌≡◌, sym, ap, ◌∙◌}
use mathlib.Core.List.{List}
use Prim.Native.Nat.{ℕ, ◌*◌, ◌≤◌}
use native.Mathlib.Omega.{arith}
use lib.ListN.{length}
use Rattle.card.specs.declared.layout.Layout.{Layout}
use Rattle.card_form.specs.Form.{header_width}
use Rattle.card_form.specs.Rows.{CardRows, lent_card_rows, rows_in}
use Rattle.card_reader.specs.Reading.{judged_of}
use Rattle.card_reader.specs.declared.judge.CardError.{CardError}
use Rattle.card_reader.proofs.Ready.{Ready, ready, header-small, all_there, segment-small}
use Rattle.read_call.specs.Reads.{unread}
use Rattle.read_call.proofs.Outcomes.{card-refused, card-read}
use Rattle.read_call.proofs.read_card.Goals as goal

-- what the table says, with as many rows as the code counted
told : (bytes : List ℕ) (lent : CardRows) {rows : ℕ} {j : Result Layout CardError} → rows ≡ rows_in lent → j ≡ judged_of bytes rows → judged_of bytes (rows_in lent) ≡ j
told bytes lent e j = sym (j ∙ ap (judged_of bytes) e)

-- the header of a card that is readable is there
headed : {bytes : List ℕ} {rows : ℕ} {l : Layout} → Ready bytes rows l → header_width l ≤ length bytes * 8
headed card = omega (arith, card.sound.fits.count, card.long)

pub count_on-count-requires : goal.count_on-count-requires
count_on-count-requires c =
    let lent : CardRows = lent_card_rows c.args.starts.now c.args.ends.now c.args.keys.now c.args.confidences.now in
    let card = ready _ _ c.in-Ok.l (told c.args.bytes.now lent c.room.ensures c.judge_card.ensures ∙ c.in-Ok.is) in
    (card.sound.fits, headed card)

pub read_segments-requires : goal.read_segments-requires
read_segments-requires c =
    let lent : CardRows = lent_card_rows c.args.starts.now c.args.ends.now c.args.keys.now c.args.confidences.now in
    let card = ready _ _ c.in-Ok.l (told c.args.bytes.now lent c.room.ensures c.judge_card.ensures ∙ c.in-Ok.is) in
    let same = c.count_on-count.ensures.0 in
    record {
      layout = card.sound.fits;
      narrow = omega (arith, card.sound.narrow);
      few = c.count_on-count.ensures.1;
      there = rw same (all_there card);
      fits = λ i h. segment-small card i (rw same at h);
      room = let r = card.room in omega (arith, same, r);
    }

pub header_on-requires : goal.header_on-requires
header_on-requires c =
    let lent : CardRows = lent_card_rows c.args.starts.now c.args.ends.now c.args.keys.now c.args.confidences.now in
    let card = ready _ _ c.in-Ok.l (told c.args.bytes.now lent c.room.ensures c.judge_card.ensures ∙ c.in-Ok.is) in
    (card.sound.fits, headed card)

pub read_answer-requires : goal.read_answer-requires
read_answer-requires c =
    let lent : CardRows = lent_card_rows c.args.starts.now c.args.ends.now c.args.keys.now c.args.confidences.now in
    let small = header-small (ready _ _ c.in-Ok.l (told c.args.bytes.now lent c.room.ensures c.judge_card.ensures ∙ c.in-Ok.is)) in
    let h = c.header_on.ensures in
    rw h (omega (arith, small.key), omega (arith, small.dsp), omega (arith, small.alternate), omega (arith, small.coverage), omega (arith, small.confidence))

pub returns-in-Err : goal.returns-in-Err
returns-in-Err c =
    let lent : CardRows = lent_card_rows c.args.starts.now c.args.ends.now c.args.keys.now c.args.confidences.now in
    card-refused _ lent _ (told c.args.bytes.now lent c.room.ensures c.judge_card.ensures ∙ c.in-Err.is) (c.unread_card.ensures ∙ ap unread c.number.ensures)

pub returns-in-Ok : goal.returns-in-Ok
returns-in-Ok c =
    let lent : CardRows = lent_card_rows c.args.starts.now c.args.ends.now c.args.keys.now c.args.confidences.now in
    let read = card-read _ lent c.in-Ok.l (told c.args.bytes.now lent c.room.ensures c.judge_card.ensures ∙ c.in-Ok.is) c.count_on-count.ensures.0 c.header_on.ensures c.read_answer.ensures c.read_segments.ensures.rows in
    search (rules, read)
