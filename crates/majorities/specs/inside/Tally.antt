-- Only for the code's own steps: no promise names it. What counting notes. Definitions only.
use Rattle.std.specs.Prelude.{ℕ, List, length, get_or, replicate, leb}
use Rattle.std.proofs.Math.Seq.{slice}
use Rattle.laws.specs.Front.{front, list}
use Rattle.laws.specs.Leader.{keys_met, leading_key, last_largest}
use Rattle.majorities.specs.Majority.{votes_of}
use Rattle.majorities.specs.declared.majority.Tally.{Tally}

-- a tally, from its parts
abbrev pub tally : List ℕ → List ℕ → ℕ → Tally
tally votes order met = record { votes = votes; order = order; met = met }

-- the votes of each of the 24 keys, and the keys in the order in which they are first met
unfoldable pub tally_of : List ℕ → Tally
tally_of numbers = tally (list (votes_of numbers) 24) (front (keys_met numbers) (replicate 24 0)) (length (keys_met numbers))

-- the last key with the most votes, in the order of meeting
unfoldable pub most_voted : Tally → ℕ
most_voted t = leading_key 0 (last_largest leb (λ (k : ℕ). get_or t.votes k 0) (slice 0 t.met t.order))
