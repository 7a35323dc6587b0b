-- Only for the code's own steps: no promise names it. What is noted of the segments. Definitions only.
use Rattle.std.specs.Prelude.{ℕ, List, ◌∷◌, length, get_or, replicate, Float, Option, None, Some}
use Rattle.std.specs.Float.{nan}
use Rattle.std.proofs.Math.Seq.{slice}
use Rattle.laws.specs.Front.{front, list}
use Rattle.laws.specs.Order.{total_order}
use Rattle.laws.specs.Leader.{keys_met, Standing, nobody, leads, last_largest}
use Rattle.timeline.specs.declared.segment.Segment.{Segment}
use Rattle.alternates.specs.Alternate.{seconds_of, lasting_keys}
use Rattle.alternates.specs.declared.alternate.Rival.{Rival}
use Rattle.alternates.specs.declared.alternate.Noted.{Noted}

-- what is noted, from its parts
abbrev pub noted : List Float → List ℕ → ℕ → Noted
noted sums order met = record { sums = sums; order = order; met = met }

-- each key's seconds; and the reported key with, behind it, the keys of the lasting segments in the order in which they are first met
unfoldable pub noted_of : ℕ → List Segment → Noted
noted_of reported segments =
    let keys = reported ∷ lasting_keys segments in
    noted (list (seconds_of segments) 24) (front (keys_met keys) (replicate 24 0)) (length (keys_met keys))

-- who leads, as the code says it
abbrev pub standing_of : Option Rival → Standing Float
standing_of None = nobody
standing_of (Some r) = leads r.key r.sum

-- of the keys behind the reported one, the last with the most seconds
unfoldable pub leader_in : Noted → Standing Float
leader_in n = last_largest total_order (λ (k : ℕ). get_or n.sums k nan) (slice 1 n.met n.order)
