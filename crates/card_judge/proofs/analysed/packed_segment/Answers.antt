-- The callees' definitions, put together.
use Rattle.card_judge.proofs.analysed.packed_segment.Goals as goal

pub returns : goal.returns
returns c = cc
