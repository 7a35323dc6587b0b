-- The whole analysis, written from the Rust's `analyze` with the check table before it. Definitions only.
use Rattle.std.specs.Prelude.{length, None, Some, Ok, Err}
use Rattle.laws.specs.Table.{any_of}
use Rattle.calls.specs.Call.{Call}
use Rattle.checks.specs.Checks.{Checked, checked}
use Rattle.checks.specs.Refusals.{number_of}
use Rattle.rooms.specs.Lent.{Lent}
use Rattle.rooms.specs.Room.{hasty, too_small}
use Rattle.answers.specs.Answer.{keyless}
use Rattle.loud_frames.specs.Loud.{AnalyseOutcome, analyse_outcome}
use Rattle.positions.specs.Positions.{positions_analysed}

-- a call that the table refuses, or finds empty, changes nothing; any other goes through its frame positions
abbrev pub after_checks : Call → Lent → Checked → AnalyseOutcome
after_checks c l (Err refusal) = analyse_outcome (keyless (number_of refusal) 0 0) l
after_checks c l (Ok None) = analyse_outcome (keyless 0 0 0) l
after_checks c l (Ok (Some positions)) = positions_analysed c positions l

-- what the table says of the call
abbrev pub table_of : Call → Lent → Checked
table_of c l = checked c (hasty c.settings) (any_of (too_small c.settings (length c.samples) l))

-- the whole outcome of a call
abbrev pub analysed : Call → Lent → AnalyseOutcome
analysed c l = after_checks c l (table_of c l)
