-- The scores of a chroma, and whether it has no shape, as the code has both. No promise names it. Definitions only.
use Rattle.std.specs.Prelude.{List, Float}
use Rattle.scores.specs.Scores.{scores_of}
use Rattle.scores.specs.Shape.{shapeless_of}
use Rattle.scores.specs.declared.scoring.Scored.{Scored}

-- both together
abbrev pub scored_of : List Float → Scored
scored_of chroma = record { scores = scores_of chroma; shapeless = shapeless_of chroma }
