-- A pattern above the infinity's is a NaN's, and any other reads as it stands.
use lib.Ieee.{binary32}
use Rattle.laws.proofs.Patterns.{pattern_number}
use Rattle.numbers.proofs.Tests.{nan_pattern}
use Rattle.numbers.proofs.single.from_pattern.Goals as goal

pub returns-then-pattern-gt2139095040 : goal.returns-then-pattern-gt2139095040
returns-then-pattern-gt2139095040 c = nan_pattern c.args.pattern c.if-pattern-gt2139095040.true

pub float_from_bits-result : goal.float_from_bits-result
float_from_bits-result c = pattern_number binary32 c.args.pattern c.if-pattern-gt2139095040.false
