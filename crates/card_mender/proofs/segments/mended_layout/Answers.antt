-- By whether the old layout is needless.
use mathlib.Core.Path.{sym, ap, ◌∙◌}
use mathlib.Core.Bool.{Bool, cond}
use Rattle.laws.proofs.Table.{told}
use Rattle.card.specs.Layout.{layout1}
use Rattle.card.specs.declared.layout.Layout.{Layout}
use Rattle.card_mender.proofs.segments.mended_layout.Goals as goal

pub returns-then-is_needless_with : goal.returns-then-is_needless_with
returns-then-is_needless_with c =
    let chosen : Bool → Layout = λ useless. cond useless layout1 c.args.l in
    c.layout_1.ensures ∙ ap chosen (sym (told c.is_needless_with.ensures c.if-is_needless_with.true))

pub returns : goal.returns
returns c =
    let chosen : Bool → Layout = λ useless. cond useless layout1 c.args.l in
    ap chosen (sym (told c.is_needless_with.ensures c.if-is_needless_with.false))
