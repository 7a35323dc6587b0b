-- Layout 1 is never needless, and another is where the rules of layout 1 are kept.
use mathlib.Core.Path.{sym, ap, ◌∙◌}
use mathlib.Core.Bool.{Bool, not, ◌&&◌}
use borrow.Author.Tests.{eq-eqb, ne_eqb}
use Rattle.bits.specs.Bits.{bits_of_bytes}
use Rattle.card.specs.Layout.{layout1}
use Rattle.card.specs.Rules.{card_broken, needless}
use Rattle.card.specs.declared.layout.Layout.{Layout}
use Rattle.card_form.specs.Form.{meaning_on}
use Rattle.card_reader.proofs.judge.is_needless.Goals as goal

pub returns-then-l-eq1 : goal.returns-then-l-eq1
unfolding needless
returns-then-l-eq1 c =
    let answer : Bool → Bool = λ first. not first && not (card_broken layout1 ((meaning_on c.args.l (bits_of_bytes c.args.bytes.now)))) in
    ap (answer) (sym (eq-eqb c.args.l.number 1 c.if-l-eq1.true))

pub returns : goal.returns
unfolding needless
returns c =
    let answer : Bool → Bool = λ first. not first && not (card_broken layout1 ((meaning_on c.args.l (bits_of_bytes c.args.bytes.now)))) in
    ap not (c.is_broken.ensures ∙ ap (λ (k : Layout). card_broken k ((meaning_on c.args.l (bits_of_bytes c.args.bytes.now)))) c.layout_1.ensures)
    ∙ ap (answer) (sym (ne_eqb c.args.l.number 1 c.if-l-eq1.false))
