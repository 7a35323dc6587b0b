-- What the calls ensure, put together.
use Rattle.std.proofs.Common.{ap, ◌∙◌, rules}
use Rattle.timeline.specs.inside.Lent.{segments_lent}
use Rattle.timeline.specs.inside.Segments.{put_segment}
use Rattle.timeline.specs.declared.segment.Segment.{Segment}
use Rattle.groups.proofs.Parts.{part-numbered}
use Rattle.groups.proofs.cut.write_group.Goals as goal

pub segment_of_group-requires : goal.segment_of_group-requires
segment_of_group-requires c = (part-numbered c.args.columns.keys.now c.args.group.from c.args.group.to c.requires.0 c.requires.1 c.requires.4, search rules)

pub returns-clause-written : goal.returns-clause-written
returns-clause-written c = c.put.ensures.rows ∙ ap (λ (s : Segment). put_segment s c.args.n (segments_lent c.args.rows.now)) c.segment_of_group.ensures
