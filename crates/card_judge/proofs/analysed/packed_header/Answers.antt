-- The callees' definitions, put together.
use Rattle.card_judge.proofs.analysed.packed_header.Goals as goal

pub returns : goal.returns
returns c = cc
