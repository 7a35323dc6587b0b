-- The callees' definitions, put together.
use Rattle.keys.proofs.Equal.{equal-by-number}
use Rattle.probe.proofs.keys_by_number.probe_same_key.Goals as goal

pub returns : goal.returns
returns c = rw (c.eq.ensures, equal-by-number c.key_from_index-first.result c.key_from_index-second.result, c.key_from_index-first.ensures, c.key_from_index-second.ensures)
