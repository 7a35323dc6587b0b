-- The keys carry the total order.
use mathlib.Core.Path.{◌∙◌}
use Rattle.numbers.proofs.Tests.{before-is}
use Rattle.numbers.proofs.floats.total_before.Goals as goal

pub returns : goal.returns
returns g c =
    let laws = g.met.F.Floating in
    let a = c.order_key.ensures in
    let b = c.order_key-2.ensures in
    c.le.ensures
    ∙ laws.keys_at_most c.order_key.result c.order_key-2.result
    ∙ before-is g.F.Floating.format (g.F.Floating.value c.args.a) (g.F.Floating.value c.args.b) a.held b.held a.key b.key
