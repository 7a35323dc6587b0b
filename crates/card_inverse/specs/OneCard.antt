-- One meaning has one card, over all layouts together. The statement; proofs/OneCard.antt proves it.
use Rattle.std.specs.Prelude.{◌≡◌, true, false, List, ◌↔◌, ℕ, is_some}
use Rattle.bits.specs.Bits.{AllBytes}
use Rattle.card.specs.Layout.{Meaning}
use Rattle.card.specs.Rules.{layout_for}
use Rattle.card_form.specs.Form.{card_for}
use Rattle.card_judge.specs.Analysed.{Analysis, meaning_of, unwritable}
use Rattle.card_call.specs.Cards.{card_of}
use Rattle.card_reader.specs.Reading.{says, read_of}

-- whichever layouts they are written in: meanings that a card holds have equal cards exactly when they are equal; two analyses that are written have equal bytes exactly when their packed numbers are equal; and bytes that are read as one meaning are equal
pub record OneMeaningOneCard : Type 0 where
  pub meanings : (m n : Meaning) → is_some (layout_for m) ≡ true → is_some (layout_for n) ≡ true → (card_for m ≡ card_for n) ↔ (m ≡ n)
  pub analyses : (a b : Analysis) → unwritable a ≡ false → unwritable b ≡ false → (card_of a ≡ card_of b) ↔ (meaning_of a ≡ meaning_of b)
  pub readings : (a b : List ℕ) → AllBytes a → AllBytes b → (rows others : ℕ) (m : Meaning) → read_of a rows ≡ says m → read_of b others ≡ says m → a ≡ b
