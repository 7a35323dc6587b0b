-- Which of both neighbours joins, case by case.
use Rattle.std.proofs.Common.{true, false}
use Rattle.records.proofs.Places.{kept-first, kept-last, kept-longer}
use Rattle.records.proofs.kept_place.Goals as goal

pub returns-then-before-i : goal.returns-then-before-i
returns-then-before-i c = kept-first c.args.i c.args.before c.args.after c.args.earlier c.args.later c.if-before-i.true

pub returns-then-after-i : goal.returns-then-after-i
returns-then-after-i c = kept-last c.args.i c.args.before c.args.after c.args.earlier c.args.later c.if-before-i.false c.if-after-i.true

pub returns-then-seconds : goal.returns-then-seconds
returns-then-seconds c =
    kept-longer c.args.i c.args.before c.args.after c.args.earlier c.args.later true c.if-before-i.false c.if-after-i.false c.seconds-2.ensures c.seconds.ensures c.if-seconds.true

pub returns-else-seconds : goal.returns-else-seconds
returns-else-seconds c =
    kept-longer c.args.i c.args.before c.args.after c.args.earlier c.args.later false c.if-before-i.false c.if-after-i.false c.seconds-2.ensures c.seconds.ensures c.if-seconds.false
