-- There are 24 scores.
use mathlib.Core.Path.{◌≡◌}
use mathlib.Core.List.{List}
use lib.ListN.{length}
use lib.Ieee.{Float}
use Rattle.laws.proofs.Front.{length-list}
use Rattle.scores.specs.Scores.{score_at, scores_of}

pub scores-count : (chroma : List Float) → length (scores_of chroma) ≡ 24
unfolding scores_of
scores-count chroma = length-list (score_at chroma) 24
