-- Each return is a branch of the definition.
use Rattle.key_choice.proofs.Branches.{takes_first, takes-second, takes_none}
use Rattle.key_choice.proofs.places.enter.Goals as goal

pub returns-then-candidate-places : goal.returns-then-candidate-places
returns-then-candidate-places c = takes_first c.args.places c.args.candidate c.if-candidate-places.true

pub returns-then-candidate-places-2 : goal.returns-then-candidate-places-2
returns-then-candidate-places-2 c = takes-second c.args.places c.args.candidate c.if-candidate-places.false c.if-candidate-places-2.true

pub returns : goal.returns
returns c = takes_none c.args.places c.args.candidate c.if-candidate-places.false c.if-candidate-places-2.false
