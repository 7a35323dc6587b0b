-- Each return is a branch of the definition.
use Rattle.timeline.specs.inside.Segments.{lent_stretches}
use Rattle.longest.proofs.Branches.{of-several, of_one}
use Rattle.longest.proofs.longest.reported_key.Goals as goal

pub returns-then-count-gt1 : goal.returns-then-count-gt1
returns-then-count-gt1 c = of-several ((lent_stretches c.args.starts.now c.args.ends.now c.args.keys.now)) c.args.count c.args.classified c.longest_segment.ensures c.if-count-gt1.true

pub returns-else-count-gt1 : goal.returns-else-count-gt1
returns-else-count-gt1 c = of_one ((lent_stretches c.args.starts.now c.args.ends.now c.args.keys.now)) c.args.count c.args.classified c.if-count-gt1.false
