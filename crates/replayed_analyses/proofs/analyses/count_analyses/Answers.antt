-- Nothing stands behind a sheet that is cut short.
use borrow.Author.Rules.{rules}
use Rattle.replayed_analyses.specs.Analyses.{records_in}
use Rattle.replayed_analyses.proofs.analyses.count_analyses.Goals as goal

pub returns-then-bytes-lt3648 : goal.returns-then-bytes-lt3648
unfolding records_in
returns-then-bytes-lt3648 c = search rules

pub returns : goal.returns
unfolding records_in
returns c = search rules
