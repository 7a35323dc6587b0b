-- Bounds that divide are counted by their keys.
use mathlib.Core.Path.{◌∙◌}
use lib.Ieee.{nan}
use Rattle.ranks.proofs.Count.{each_all}
use Rattle.ranks.proofs.Under.{count-under-is}
use Rattle.ranks.proofs.narrowing.counted.Goals as goal

pub returns : goal.returns
returns c =
    let pivots = c.args.pivots in
    let low = c.count_under.ensures in
    let high = c.count_under-2.ensures in
    let fit = each_all c.args.values.now nan c.type_inv.values in
    record {
      low_divides = pivots.low_divides;
      high_divides = pivots.high_divides;
      low_fits = low.held;
      high_fits = high.held;
      below_is = low.under ∙ count-under-is pivots.low pivots.low_divides low.held fit;
      upto_is = high.under ∙ count-under-is pivots.high pivots.high_divides high.held fit;
    }
