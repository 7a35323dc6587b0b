-- One card has one meaning: it is read as what was written; and one meaning one card: what is read was written from it.
use Rattle.std.specs.Prelude.{is_some}
use mathlib.Core.Path.{◌≡◌, refl, sym, ap, ◌∙◌}
use mathlib.Core.Bool.{true, false}
use mathlib.Core.List.{List}
use mathlib.Core.Logic.{◌↔◌}
use Prim.Native.Nat.{ℕ, ◌+◌}
use native.Mathlib.Omega.{arith}
use lib.ListN.{length}
use Rattle.card.specs.Layout.{Meaning}
use Rattle.card.specs.Rules.{layout_for}
use Rattle.card_form.specs.Form.{card_for}
use Rattle.card_judge.specs.Analysed.{Analysis, meaning_of, unwritable}
use Rattle.card_judge.proofs.Analyses.{written_in}
use Rattle.card_reader.specs.Reading.{says, read_of}
use Rattle.card_inverse.specs.OneCard.{OneMeaningOneCard}
use Rattle.card_inverse.proofs.Inverse.{read-is-written, written-is-read}

says_same : {m n : Meaning} → says m ≡ says n → m ≡ n
says_same e = cc

-- with rows for the segments of both
same-meaning : (m n : Meaning) → is_some (layout_for m) ≡ true → is_some (layout_for n) ≡ true → (card_for m ≡ card_for n) ↔ (m ≡ n)
same-meaning m n kept held =
    let rows = length m.segments + length n.segments in
    let first : read_of (card_for m) rows ≡ says m = written-is-read (card_for m) rows m (record { held = kept; written = refl }) (omega arith) in
    let second : read_of (card_for n) rows ≡ says n = written-is-read (card_for n) rows n (record { held = held; written = refl }) (omega arith) in
    (λ same. says_same (sym first ∙ ap (λ (bytes : List ℕ). read_of bytes rows) same ∙ second), λ same. ap card_for same)

is_held : (a : Analysis) → unwritable a ≡ false → is_some (layout_for (meaning_of a)) ≡ true
is_held a w = ap is_some (written_in a w).1

pub one-meaning-one-card : OneMeaningOneCard
one-meaning-one-card = record {
  meanings = same-meaning;
  analyses = λ a b w x. same-meaning (meaning_of a) (meaning_of b) (is_held a w) (is_held b x);
  readings = λ a b bytewise others rows more m read again. (read-is-written a bytewise rows m read).0.written ∙ sym (read-is-written b others more m again).0.written;
}
