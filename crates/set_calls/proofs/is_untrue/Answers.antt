-- The three tests, of which the last two need a set of its own size.
use borrow.Author.Tests.{eq-eqb, ne_eqb}
use mathlib.Core.Path.{ap, ◌∙◌}
use mathlib.Core.Bool.{not}
use Rattle.set_calls.specs.Sets.{lent_set}
use Rattle.set_calls.proofs.Truth.{by_size, by-spoilt, by-numbers}
use Rattle.set_calls.proofs.is_untrue.Goals as goal

pub returns-then-set-ne-SET_SIZE : goal.returns-then-set-ne-SET_SIZE
returns-then-set-ne-SET_SIZE c = by_size (lent_set c.args.set.now c.args.summary.now) (ap not (ne_eqb _ _ c.if-set-ne-SET_SIZE.true))

pub returns-then-spoilt : goal.returns-then-spoilt
returns-then-spoilt c = by-spoilt (lent_set c.args.set.now c.args.summary.now) (ap not (eq-eqb _ _ c.if-set-ne-SET_SIZE.false)) c.tally-spoilt.ensures.0 c.if-spoilt.true

pub returns-else-spoilt : goal.returns-else-spoilt
returns-else-spoilt c =
    c.ne.ensures
    ∙ by-numbers (lent_set c.args.set.now c.args.summary.now) (ap not (eq-eqb _ _ c.if-set-ne-SET_SIZE.false)) c.tally-spoilt.ensures.0 c.if-spoilt.false (c.as_slice.ensures ∙ c.tally-spoilt.ensures.1)
