-- The card's own numbers, and then those less.
use mathlib.Core.Path.{◌≡◌, sym, ap, subst, ◌∙◌}
use mathlib.Core.List.{List}
use Prim.Native.Nat.{ℕ}
use lib.ListN.{length, get_or}
use Rattle.bits.specs.Bits.{bits_of_bytes}
use Rattle.card_form.specs.Form.{meaning_on}
use Rattle.set_totals.specs.inside.Numbers.{summary_numbers, card_number, more, less, CanTake}
use Rattle.set_totals.proofs.Numbers.{zeros, zeros-can, own-can, own-less, more-long, less-long}
use Rattle.set_totals.proofs.one_card.take_numbers.Goals as goal

pub add_numbers-requires : goal.add_numbers-requires
add_numbers-requires c = (c.requires.0, zeros-can)

pub subtract-requires : goal.subtract-requires
subtract-requires c =
    let own_is : c.add_numbers.new.numbers ≡ more (card_number ((meaning_on c.args.l (bits_of_bytes c.args.card.now)))) zeros = c.add_numbers.ensures in
    subst (λ (own : List ℕ). (length own ≡ summary_numbers) × CanTake (λ (k : ℕ). get_or own k 0) c.args.numbers.now) (sym (own_is)) (more-long (card_number ((meaning_on c.args.l (bits_of_bytes c.args.card.now)))) zeros, own-can (card_number ((meaning_on c.args.l (bits_of_bytes c.args.card.now)))) c.requires.1)

pub shape_of-numbers : goal.shape_of-numbers
shape_of-numbers c =
    let own_is : c.add_numbers.new.numbers ≡ more (card_number ((meaning_on c.args.l (bits_of_bytes c.args.card.now)))) zeros = c.add_numbers.ensures in
    let left_is : c.subtract.new.numbers ≡ less (card_number ((meaning_on c.args.l (bits_of_bytes c.args.card.now)))) c.args.numbers.now = c.subtract.ensures
    ∙ ap (λ (own : List ℕ). less (λ (k : ℕ). get_or own k 0) c.args.numbers.now) (own_is)
    ∙ own-less (card_number ((meaning_on c.args.l (bits_of_bytes c.args.card.now)))) c.args.numbers.now in
    ap length (left_is) ∙ less-long _ _ ∙ sym c.requires.1.size

pub returns : goal.returns
returns c =
    let own_is : c.add_numbers.new.numbers ≡ more (card_number ((meaning_on c.args.l (bits_of_bytes c.args.card.now)))) zeros = c.add_numbers.ensures in
    let left_is : c.subtract.new.numbers ≡ less (card_number ((meaning_on c.args.l (bits_of_bytes c.args.card.now)))) c.args.numbers.now = c.subtract.ensures
    ∙ ap (λ (own : List ℕ). less (λ (k : ℕ). get_or own k 0) c.args.numbers.now) (own_is)
    ∙ own-less (card_number ((meaning_on c.args.l (bits_of_bytes c.args.card.now)))) c.args.numbers.now in
    left_is
