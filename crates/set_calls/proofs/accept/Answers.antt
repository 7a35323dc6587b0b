-- Each return is a row of the table, or falls through it.
use mathlib.Core.Path.{◌≡◌, sym, ap, ◌∙◌}
use Rattle.std.specs.Prelude.{Result, Ok, Err, IsErrAnd}
use Rattle.laws.proofs.Table.{told}
use Rattle.card.specs.declared.layout.Layout.{Layout}
use Rattle.card_reader.specs.declared.judge.CardError.{CardError}
use Rattle.set_calls.specs.Sets.{lent_set}
use Rattle.set_calls.specs.declared.SetError.{SetError}
use Rattle.set_calls.specs.declared.SetError.TheVariants.{Unreadable}
use Rattle.set_calls.proofs.Accepted.{untrue-refused, unread-refused, long-refused, accepted-is}
use Rattle.set_calls.proofs.accept.Goals as goal

-- what becomes of an error of the reader
made : {error : CardError} (r : Result Layout SetError) → IsErrAnd r (λ e. e ≡ Unreadable error) → r ≡ Err (Unreadable error)
made (Err e) p = ap Err p
made (Ok l) p = absurd p

pub returns-then-is_untrue : goal.returns-then-is_untrue
returns-then-is_untrue c = untrue-refused c.args.card.now (lent_set c.args.set.now c.args.summary.now) (told c.is_untrue.ensures c.if-is_untrue.true)

pub returns-in_err-l : goal.returns-in_err-l
returns-in_err-l c =
    made c.from_residual.result c.from_residual.ensures.1
    ∙ unread-refused c.args.card.now (lent_set c.args.set.now c.args.summary.now) (told c.is_untrue.ensures c.if-is_untrue.false) (sym c.judge_card.ensures ∙ c.in_err-l.was)

pub returns-then-card-gt-PLACE_SIZE : goal.returns-then-card-gt-PLACE_SIZE
returns-then-card-gt-PLACE_SIZE c =
    long-refused c.args.card.now (lent_set c.args.set.now c.args.summary.now) (told c.is_untrue.ensures c.if-is_untrue.false) (sym c.judge_card.ensures ∙ c.in_ok-l.was) c.if-card-gt-PLACE_SIZE.true

pub returns : goal.returns
returns c =
    accepted-is c.args.card.now (lent_set c.args.set.now c.args.summary.now) (told c.is_untrue.ensures c.if-is_untrue.false) (sym c.judge_card.ensures ∙ c.in_ok-l.was) c.if-card-gt-PLACE_SIZE.false
