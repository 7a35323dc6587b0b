-- The tally of all numbers, and its last of the largest.
use mathlib.Core.Path.{◌∙◌}
use Rattle.majorities.proofs.Counting.{tally-fits, told-rightly}
use Rattle.majorities.proofs.majority.majority_key.Goals as goal

pub count_votes-tally-requires : goal.count_votes-tally-requires
count_votes-tally-requires c = c.requires

pub most_voted-requires : goal.most_voted-requires
most_voted-requires c = tally-fits c.args.numbers.now c.requires c.count_votes-tally.ensures

pub returns : goal.returns
returns c = c.most_voted.ensures ∙ told-rightly c.args.numbers.now c.requires c.count_votes-tally.ensures
