-- The card that is accepted, and the place that is found.
use Rattle.std.proofs.Common.{Err, arith, sym, ap, ◌∙◌}
use Rattle.set_places.specs.Places.{in_place}
use Rattle.set_calls.specs.Sets.{lent_set}
use Rattle.set_calls.proofs.Accepted.{accepted, handed-on, none-of, some-of, for-refused, for-missing, for-found}
use Rattle.set_calls.proofs.place_for.Goals as goal

pub find_place-requires : goal.find_place-requires
find_place-requires c =
    let a = accepted c.args.card.now (lent_set c.args.set.now c.args.summary.now) (sym c.accept.ensures ∙ c.in_ok-l.was) in
    (a.set.whole, omega (arith, a.fits, c.requires))

pub returns-in_err-l : goal.returns-in_err-l
returns-in_err-l c =
    handed-on c.from_residual.result c.from_residual.ensures.1
    ∙ for-refused c.args.missing (in_place c.args.wanted.now) c.args.card.now (lent_set c.args.set.now c.args.summary.now) (sym c.accept.ensures ∙ c.in_err-l.was)

pub returns-in_err-place : goal.returns-in_err-place
returns-in_err-place c =
    let none = none-of c.find_place.result c.ok_or.ensures.value c.in_err-place.was in
    handed-on c.from_residual-in_err-place.result c.from_residual-in_err-place.ensures.1
    ∙ ap Err none.1
    ∙ for-missing c.args.missing (in_place c.args.wanted.now) c.args.card.now (lent_set c.args.set.now c.args.summary.now) (sym c.accept.ensures ∙ c.in_ok-l.was) (sym c.find_place.ensures ∙ none.0)

pub returns : goal.returns
returns c =
    for-found c.args.missing (in_place c.args.wanted.now) c.args.card.now (lent_set c.args.set.now c.args.summary.now) (sym c.accept.ensures ∙ c.in_ok-l.was)
    (sym c.find_place.ensures ∙ some-of c.args.missing c.find_place.result c.ok_or.ensures.value c.in_ok-place.was)
