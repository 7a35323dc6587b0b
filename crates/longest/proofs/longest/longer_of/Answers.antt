-- Each return is a branch of the definition.
use mathlib.Core.Path.{◌≡◌, sym, ap₂, ◌∙◌}
use Rattle.laws.specs.Order.{total_order}
use Rattle.timeline.specs.Segments.{seconds}
use Rattle.longest.specs.Longest.{longer}
use Rattle.longest.proofs.longest.longer_of.Goals as goal

pub returns-then-total_before : goal.returns-then-total_before
unfolding longer
returns-then-total_before c =
    let told : let args = c.args in c.total_before.result ≡ total_order (seconds args.best) (seconds args.segment) = c.total_before.ensures ∙ ap₂ total_order c.segment_seconds.ensures c.segment_seconds-2.ensures in
    rw (sym (told) ∙ c.if-total_before.true)

pub returns-else-total_before : goal.returns-else-total_before
unfolding longer
returns-else-total_before c =
    let told : let args = c.args in c.total_before.result ≡ total_order (seconds args.best) (seconds args.segment) = c.total_before.ensures ∙ ap₂ total_order c.segment_seconds.ensures c.segment_seconds-2.ensures in
    rw (sym (told) ∙ c.if-total_before.false)
