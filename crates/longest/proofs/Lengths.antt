-- Lengths of segments are values of binary64, which the total order ranks.
use lib.Dec.{T}
use lib.Ieee.{Float, binary64, fits}
use lib.Ieee.Fits.{sub-fits}
use Rattle.laws.specs.Order.{total_order}
use Rattle.laws.proofs.Leader.{Ranks}
use Rattle.laws.proofs.Total.{total-order}
use Rattle.timeline.specs.Segments.{seconds}
use Rattle.timeline.specs.declared.segment.Segment.{Segment}

-- the total order of what binary64 holds, as lengths and their sums are
abbrev pub InFormat : Float → Type 0
InFormat x = T (fits binary64 x)

pub order-ranks : Ranks total_order InFormat
order-ranks = record { total = (total-order binary64).total; transitive = (total-order binary64).transitive }

pub seconds-fits : (s : Segment) → InFormat (seconds s)
unfolding seconds
seconds-fits s = sub-fits binary64 s.end s.start
