-- The sign of a number is std's, and the NaN has none.
use mathlib.Core.Path.{◌∙◌}
use Rattle.numbers.proofs.Tests.{sign-is, unsigned-nan}
use Rattle.numbers.proofs.single.F32Floating.is_negative.Goals as goal

pub returns-then-not-is_nan : goal.returns-then-not-is_nan
returns-then-not-is_nan c = c.is_sign_negative.ensures ∙ sign-is c.args.self

pub returns-else-not-is_nan : goal.returns-else-not-is_nan
returns-else-not-is_nan c = unsigned-nan c.args.self c.is_nan.ensures.value c.if-not-is_nan.false
