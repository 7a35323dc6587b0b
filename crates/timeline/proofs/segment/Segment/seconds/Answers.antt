-- What the calls ensure, put together.
use borrow.Author.Rules.{rules}
use lib.Ieee.{sub}
use Rattle.timeline.specs.Segments.{seconds}
use Rattle.timeline.proofs.segment.Segment.seconds.Goals as goal

pub returns : goal.returns
unfolding seconds sub
returns c = search rules
