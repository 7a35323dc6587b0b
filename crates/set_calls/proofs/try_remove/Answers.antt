-- The card's place is found, freed, and its numbers are taken away.
use Rattle.std.proofs.Common.{[], arith, sym, ap, subst, ◌∙◌}
use Rattle.bits.specs.Bits.{bits_of_bytes}
use Rattle.card_form.specs.Form.{meaning_on}
use Rattle.set_places.specs.Places.{in_place}
use Rattle.set_totals.specs.inside.Numbers.{card_number, less, CanTake}
use Rattle.set_totals.proofs.Exchanged.{numbers-taken, own-can-take}
use Rattle.set_calls.specs.Sets.{lent_set, set_outcome}
use Rattle.set_calls.specs.inside.Accepted.{change_of}
use Rattle.set_calls.specs.declared.SetError.TheVariants.{NotInSet}
use Rattle.set_calls.proofs.Accepted.{placed-for, not_placed, call_changed, handed-on, left_is}
use Rattle.set_calls.proofs.try_remove.Goals as goal

pub returns-in_err-l : goal.returns-in_err-l
returns-in_err-l c =
    let s = lent_set c.args.set.now c.args.summary.now in
    ap (λ r. set_outcome (change_of r) s) (handed-on c.from_residual.result c.from_residual.ensures.1) ∙ not_placed NotInSet (in_place c.args.card.now) c.args.card.now s (in_place []) (sym c.place_for.ensures ∙ c.in_err-l.was)

pub put_in_place-requires : goal.put_in_place-requires
put_in_place-requires c =
    let p = placed-for NotInSet (in_place c.args.card.now) c.args.card.now (lent_set c.args.set.now c.args.summary.now) (sym c.place_for.ensures ∙ c.in_ok-l.was) in
    (p.taken.set.whole, p.place.inside, omega (arith, p.taken.fits))

pub take_numbers-requires : goal.take_numbers-requires
take_numbers-requires c =
    let p = placed-for NotInSet (in_place c.args.card.now) c.args.card.now (lent_set c.args.set.now c.args.summary.now) (sym c.place_for.ensures ∙ c.in_ok-l.was) in (
      p.taken.readable,
      subst (CanTake (card_number (meaning_on c.in_ok-l.l (bits_of_bytes c.args.card.now)))) (sym p.taken.set.summed)
          (own-can-take c.args.set.now c.in_ok-l.place p.taken.set.whole p.place.inside c.args.card.now _ p.taken.fits p.taken.readable p.place.has),
    )

pub overflow_cast-result : goal.overflow_cast-result
overflow_cast-result c =
    let p = placed-for NotInSet (in_place c.args.card.now) c.args.card.now (lent_set c.args.set.now c.args.summary.now) (sym c.place_for.ensures ∙ c.in_ok-l.was) in
    omega (arith, p.place.inside)

pub returns : goal.returns
returns c =
    let p = placed-for NotInSet (in_place c.args.card.now) c.args.card.now (lent_set c.args.set.now c.args.summary.now) (sym c.place_for.ensures ∙ c.in_ok-l.was) in
    let s = lent_set c.args.set.now c.args.summary.now in
    left_is s (in_place []) p.place.here c.put_in_place.ensures
    (c.take_numbers.ensures ∙ ap (less (card_number (meaning_on c.in_ok-l.l (bits_of_bytes c.args.card.now)))) p.taken.set.summed
    ∙ numbers-taken c.args.set.now c.in_ok-l.place p.taken.set.whole p.place.inside c.args.card.now _ p.taken.fits p.taken.readable p.place.has)
    ∙ call_changed c.args.card.now s 32 (in_place c.args.card.now) (in_place []) p.taken p.place
