-- The measure is the number.
use Rattle.listing.proofs.lines.+write_decimal.Given as goal

abbrev pub decreases-write_decimal : goal.decreases-write_decimal
decreases-write_decimal l = l.n
