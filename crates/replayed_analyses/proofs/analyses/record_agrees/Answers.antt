-- The arrays are read, and the call that they make is compared.
use Rattle.replayed_analyses.proofs.Calls.{call-judged}
use mathlib.Core.Path.{◌∙◌}
use Rattle.replayed_analyses.proofs.analyses.record_agrees.Goals as goal

pub call_agrees-requires : goal.call_agrees-requires
call_agrees-requires c = c.requires.1

pub returns : goal.returns
returns c =
    c.call_agrees.ensures
    ∙ call-judged _ _ c.settings_at-settings.ensures c.head_at-head.ensures c.read_values.ensures c.read_values-2.ensures c.read_values-3.ensures c.read_values-4.ensures c.read_numbers.ensures c.read_values-5.ensures c.read_values-6.ensures
