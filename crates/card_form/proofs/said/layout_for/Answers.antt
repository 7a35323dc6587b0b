-- Each layout is tried, in their order.
use mathlib.Core.Path.{ap}
use mathlib.Core.Bool.{not}
use Rattle.card.proofs.Chosen.{kept-first, kept_second, kept-nowhere}
use Rattle.card_form.specs.Said.{card_said}
use Rattle.card_form.proofs.said.layout_for.Goals as goal

pub returns-then-not-is_broken : goal.returns-then-not-is_broken
returns-then-not-is_broken g c =
    let s = g.S.SaysCard in
    let said = c.args.said.now in
    kept-first (card_said (s.header_of said) (s.segment_of said) (s.count_of said)) c.is_broken.ensures c.layout_1-first.ensures (ap not c.if-not-is_broken.true)

pub returns-then-not-is_broken-2 : goal.returns-then-not-is_broken-2
returns-then-not-is_broken-2 g c =
    let s = g.S.SaysCard in
    let said = c.args.said.now in
    kept_second (card_said (s.header_of said) (s.segment_of said) (s.count_of said)) c.is_broken.ensures c.layout_1-first.ensures (ap not c.if-not-is_broken.false) c.is_broken-2.ensures c.layout_2-second.ensures (ap not c.if-not-is_broken-2.true)

pub returns : goal.returns
returns g c =
    let s = g.S.SaysCard in
    let said = c.args.said.now in
    kept-nowhere (card_said (s.header_of said) (s.segment_of said) (s.count_of said)) c.is_broken.ensures c.layout_1-first.ensures (ap not c.if-not-is_broken.false) c.is_broken-2.ensures c.layout_2-second.ensures (ap not c.if-not-is_broken-2.false)
