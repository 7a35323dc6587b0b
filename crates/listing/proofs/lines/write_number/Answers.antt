-- The digits, and a byte behind them.
use mathlib.Core.List.{[], ◌∷◌}
use native.Mathlib.Omega.{arith}
use lib.ListN.{length-append}
use Rattle.listing.specs.Lines.{decimal_of, number_then}
use Rattle.listing.proofs.Behind.{byte-behind}
use Rattle.listing.proofs.Decimals.{few-digits}
use Rattle.listing.proofs.lines.write_number.Goals as goal

pub write_decimal-at-requires : goal.write_decimal-at-requires
unfolding number_then
write_decimal-at-requires c = omega (arith, c.requires, length-append (decimal_of c.args.n) (c.args.behind ∷ []))

pub bounds-bytes-at : goal.bounds-bytes-at
unfolding number_then
bounds-bytes-at c =
    let call = c.write_decimal-at in
    omega (arith, c.requires, length-append (decimal_of c.args.n) (c.args.behind ∷ []), call.ensures.size, call.auto.bytes)

pub overflow_add-result : goal.overflow_add-result
overflow_add-result c = omega (arith, c.write_decimal-at.ensures.size, few-digits c.args.n)

pub returns : goal.returns
unfolding number_then
returns c = byte-behind c.write_decimal-at.ensures c.args.behind (omega (arith, c.requires, length-append (decimal_of c.args.n) (c.args.behind ∷ [])))
