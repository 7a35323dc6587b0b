-- No sum leaves its type, since counts are below 2 ^ 32.
use native.Mathlib.Omega.{arith}
use Rattle.bits.proofs.Digits.{few_bits}
use Rattle.card_form.proofs.card_size.Goals as goal

pub overflow_mul-result : goal.overflow_mul-result
overflow_mul-result c = omega (arith, few_bits c.args.count c.args.l.end c.requires.1 c.requires.0.end, c.requires.0.count)

pub overflow_add-result-4 : goal.overflow_add-result-4
overflow_add-result-4 c = omega (arith, few_bits c.args.count c.args.l.end c.requires.1 c.requires.0.end, c.requires.0.count)

pub overflow_add-result-5 : goal.overflow_add-result-5
overflow_add-result-5 c = omega (arith, few_bits c.args.count c.args.l.end c.requires.1 c.requires.0.end, c.requires.0.count)
