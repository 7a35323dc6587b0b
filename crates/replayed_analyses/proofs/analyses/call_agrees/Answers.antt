-- The arrays are blank, and what the analysis makes of them is compared.
use borrow.Author.Rules.{rules}
use mathlib.Core.Path.{ap, ◌∙◌}
use lib.Ieee.{of_bits}
use Rattle.stored_analyses.specs.Outcome.{same_outcome}
use Rattle.replayed_analyses.proofs.analyses.call_agrees.Goals as goal

pub outcome_agrees-requires : goal.outcome_agrees-requires
outcome_agrees-requires c = (
  c.requires,
  record {
    centres = search rules;
    values = search rules;
    energies = search rules;
    work = search rules;
    middles = search rules;
    numbers = search rules;
    certainties = search rules;
    shapeless = search rules;
    starts = search rules;
    ends = search rules;
    keys = search rules;
    confidences = search rules;
    counts = search rules;
  },
)

pub returns : goal.returns
unfolding of_bits
returns c = c.outcome_agrees.ensures ∙ ap (same_outcome _ _) c.analyse-answer.ensures
