-- The digits of the tenth come first, then the last digit.
use Rattle.std.proofs.Common.{◌^◌, ◌%◌, ◌<◌, arith, ap}
use lib.ListN.{length}
use Rattle.listing.specs.Lines.{digit_code}
use Rattle.listing.proofs.Behind.{byte-behind}
use Rattle.listing.proofs.Decimals.{one-digit, more-digits, one-longer}
use Rattle.listing.proofs.lines.+write_decimal.Goals as goal

pub bounds-bytes-0 : goal.bounds-bytes-0
bounds-bytes-0 t c = omega (arith, c.requires, ap length (one-digit c.args.n (omega arith)))

pub write_decimal-at-requires : goal.write_decimal-at-requires
write_decimal-at-requires t c = (omega arith, omega (arith, c.requires, one-longer c.args.n (omega arith) (omega arith)))

pub bounds-bytes-at : goal.bounds-bytes-at
bounds-bytes-at t c =
    let longer = one-longer c.args.n (omega arith) (omega arith) in
    omega (arith, c.requires, c.write_decimal-at.ensures.size, c.write_decimal-at.auto.bytes)

pub returns : goal.returns
returns t c =
    let n = c.args.n in
    let fits : n < 2 ^ 64 = omega arith in
    rw (more-digits n (omega arith) fits, c.digit-2.ensures)
    (byte-behind c.write_decimal-at.ensures (digit_code (n % 10)) (omega (arith, c.requires, one-longer n (omega arith) fits)))
