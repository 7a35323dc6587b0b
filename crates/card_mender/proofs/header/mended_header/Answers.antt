-- By whether the alternate goes.
use mathlib.Core.Path.{sym, ap, ◌∙◌}
use mathlib.Core.Bool.{Bool, cond}
use Rattle.laws.proofs.Table.{told}
use Rattle.card.specs.declared.layout.Header.{Header}
use Rattle.card_mender.specs.Mending.{without_alternate}
use Rattle.card_mender.proofs.header.mended_header.Goals as goal

pub returns-then-alternate_goes : goal.returns-then-alternate_goes
returns-then-alternate_goes c =
    let kept : Bool → Header = λ goes. cond goes (without_alternate c.args.h) c.args.h in
    c.without_alternate.ensures ∙ ap kept (sym (told c.alternate_goes.ensures c.if-alternate_goes.true))

pub returns : goal.returns
returns c =
    let kept : Bool → Header = λ goes. cond goes (without_alternate c.args.h) c.args.h in
    ap kept (sym (told c.alternate_goes.ensures c.if-alternate_goes.false))
