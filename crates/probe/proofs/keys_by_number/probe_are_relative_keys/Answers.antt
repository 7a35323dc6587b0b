-- The callees' definitions, put together.
use mathlib.Core.Path.{◌∙◌}
use Rattle.probe.proofs.keys_by_number.probe_are_relative_keys.Goals as goal

pub returns : goal.returns
returns c = c.are_relative_keys.ensures ∙ rw (c.key_from_index-first.ensures, c.key_from_index-second.ensures)
