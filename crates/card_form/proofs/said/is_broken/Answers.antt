-- The header is judged first, then the segments one after the other.
use mathlib.Core.Path.{ap, ap₂, ◌∙◌}
use lib.Dec.{ltb}
use Rattle.laws.proofs.Table.{told}
use Rattle.card.specs.Rules.{header_broken}
use Rattle.card_form.proofs.Broken.{by-header, by-segments}
use Rattle.card_form.proofs.said.is_broken.Goals as goal

pub returns-then-header_broken : goal.returns-then-header_broken
returns-then-header_broken g c =
    let s = g.S.SaysCard in
    let said = c.args.said.now in
    by-header c.args.l (s.header_of said) (s.segment_of said) (s.count_of said) (told (c.header_broken.ensures ∙ ap₂ (header_broken c.args.l) c.header-header.ensures c.count-count.ensures) c.if-header_broken.true)

pub returns : goal.returns
returns g c =
    let s = g.S.SaysCard in
    let said = c.args.said.now in
    ap (ltb c.first_broken.result) c.count-count.ensures
    ∙ by-segments c.args.l (s.header_of said) (s.segment_of said) (s.count_of said) (told (c.header_broken.ensures ∙ ap₂ (header_broken c.args.l) c.header-header.ensures c.count-count.ensures) c.if-header_broken.false) c.first_broken.ensures
