-- Stored answers of the Rust for whole analyses, record by record. Definitions only.
use Rattle.std.specs.Prelude.{ℕ, ◌+◌, ◌-◌, ◌*◌, ◌/◌, Bool, not, cond, List, length, replicate, Float}
use Rattle.laws.specs.Turns.{turns}
use Rattle.laws.specs.Values.{plus_zero}
use Rattle.calls.specs.inside.Parts.{rows}
use Rattle.timeline.specs.inside.Estimates.{estimate_rows}
use Rattle.timeline.specs.inside.Segments.{segment_rows}
use Rattle.rooms.specs.Lent.{Lent, lent}
use Rattle.analysis.specs.Analyse.{analysed}
use Rattle.stored_analyses.specs.Stored.{call_at}
use Rattle.stored_analyses.specs.Outcome.{same_outcome}

-- so many zeros
abbrev pub zeros : ℕ → List Float
zeros count = replicate count plus_zero

-- what each call is lent: rows for 8 frames, 5 estimates and 5 segments, all zero
abbrev pub blank : Lent
blank =
    lent (rows (zeros 8) (replicate 8 (zeros 12)) (zeros 8)) (zeros 8)
    (estimate_rows (zeros 5) (replicate 5 0) (zeros 5) (replicate 5 0))
    (segment_rows (zeros 5) (zeros 5) (replicate 5 0) (zeros 5) (replicate 5 0))

-- whether the outcome of the record's call is the stored one
unfoldable pub agrees : List ℕ → ℕ → Bool
agrees bytes start = same_outcome bytes start (analysed (call_at bytes start) blank)

-- how many records stand behind the sheet
unfoldable pub records_in : List ℕ → ℕ
records_in bytes = (length bytes - 3648) / 2424

-- one record more
abbrev pub record_turn : List ℕ → ℕ → ℕ → ℕ
record_turn bytes n differ = cond (not (agrees bytes (3648 + n * 2424))) (differ + 1) differ

-- how many of them say something else
unfoldable pub differing : List ℕ → ℕ
differing bytes = turns (record_turn bytes) (records_in bytes) 0 0
