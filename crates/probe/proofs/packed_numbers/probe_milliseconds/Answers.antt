-- The leaf's number.
use mathlib.Core.Path.{ap, ◌∙◌}
use Rattle.probe.specs.Packed.{number_of}
use Rattle.probe.proofs.packed_numbers.probe_milliseconds.Goals as goal

pub returns : goal.returns
returns c = c.number_of.ensures ∙ ap number_of c.milliseconds.ensures
