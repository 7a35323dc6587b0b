-- What is read, put together.
use lib.Ieee.{sub}
use Rattle.timeline.specs.inside.Segments.{seconds_in}
use borrow.Author.Rules.{rules}
use Rattle.timeline.proofs.segment_rows.LentSegments.seconds.Goals as goal

pub returns : goal.returns
unfolding seconds_in sub
returns c = search rules
