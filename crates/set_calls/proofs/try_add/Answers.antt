-- A free place is found, filled, and the card's numbers are added.
use Rattle.std.proofs.Common.{[], arith, sym, ap, subst, ◌∙◌}
use Rattle.bits.specs.Bits.{bits_of_bytes}
use Rattle.card_form.specs.Form.{meaning_on}
use Rattle.set_places.specs.Places.{in_place}
use Rattle.set_totals.specs.inside.Numbers.{card_number, more, CanAdd}
use Rattle.set_totals.proofs.Exchanged.{numbers-added, own-can-add}
use Rattle.set_calls.specs.Sets.{lent_set, set_outcome}
use Rattle.set_calls.specs.inside.Accepted.{change_of}
use Rattle.set_calls.specs.declared.SetError.TheVariants.{FullSet}
use Rattle.set_calls.proofs.Accepted.{placed-for, not_placed, call_changed, handed-on, left_is}
use Rattle.set_calls.proofs.try_add.Goals as goal

pub returns-in_err-l : goal.returns-in_err-l
returns-in_err-l c =
    let s = lent_set c.args.set.now c.args.summary.now in
    ap (λ r. set_outcome (change_of r) s) (handed-on c.from_residual.result c.from_residual.ensures.1) ∙ not_placed FullSet (in_place []) c.args.card.now s (in_place c.args.card.now) (sym c.place_for.ensures ∙ c.in_err-l.was)

pub put_in_place-requires : goal.put_in_place-requires
put_in_place-requires c =
    let p = placed-for FullSet (in_place []) c.args.card.now (lent_set c.args.set.now c.args.summary.now) (sym c.place_for.ensures ∙ c.in_ok-l.was) in
    (p.taken.set.whole, p.place.inside, omega (arith, p.taken.fits))

pub add_numbers-requires : goal.add_numbers-requires
add_numbers-requires c =
    let p = placed-for FullSet (in_place []) c.args.card.now (lent_set c.args.set.now c.args.summary.now) (sym c.place_for.ensures ∙ c.in_ok-l.was) in
    (p.taken.readable, subst CanAdd (sym p.taken.set.summed) (own-can-add c.args.set.now))

pub overflow_cast-result : goal.overflow_cast-result
overflow_cast-result c =
    let p = placed-for FullSet (in_place []) c.args.card.now (lent_set c.args.set.now c.args.summary.now) (sym c.place_for.ensures ∙ c.in_ok-l.was) in
    omega (arith, p.place.inside)

pub returns : goal.returns
returns c =
    let p = placed-for FullSet (in_place []) c.args.card.now (lent_set c.args.set.now c.args.summary.now) (sym c.place_for.ensures ∙ c.in_ok-l.was) in
    let s = lent_set c.args.set.now c.args.summary.now in
    left_is s (in_place c.args.card.now) p.place.here c.put_in_place.ensures
    (c.add_numbers.ensures ∙ ap (more (card_number (meaning_on c.in_ok-l.l (bits_of_bytes c.args.card.now)))) p.taken.set.summed
    ∙ numbers-added c.args.set.now c.in_ok-l.place p.taken.set.whole p.place.inside c.args.card.now _ p.taken.fits p.taken.readable p.place.has)
    ∙ call_changed c.args.card.now s 31 (in_place []) (in_place c.args.card.now) p.taken p.place
