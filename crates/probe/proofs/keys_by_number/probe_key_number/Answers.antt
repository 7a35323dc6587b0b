-- The callees' definitions, put together.
use mathlib.Core.Path.{◌∙◌}
use Rattle.probe.proofs.keys_by_number.probe_key_number.Goals as goal

pub returns : goal.returns
returns c = c.from.ensures ∙ rw c.key_from_index-key.ensures
