-- The rows that the span asks for.
use Rattle.rooms.proofs.rows_lack.Goals as goal

pub returns : goal.returns
returns c = rw (c.rows_asked-asked.ensures, c.span_of.ensures)
