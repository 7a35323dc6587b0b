-- A fact of `proofs/Narrows.antt` for each range of the exponent's field.
use Rattle.std.proofs.Common.{ℕ, ◌+◌, ◌-◌, ◌*◌, ◌/◌, ◌^◌, sym, ap, ◌∙◌, arith}
use Rattle.conversions.proofs.Narrows.{digits, digits_lt, quotient_le, narrow-tiny, narrow-low, narrow-middle, narrow_high}
use Rattle.conversions.proofs.narrow_pattern.Goals as goal

pub returns-then-field-lt873 : goal.returns-then-field-lt873
returns-then-field-lt873 c = sym (narrow-tiny c.args.bits c.requires c.if-field-lt873.true)

pub returns-then-field-lt897 : goal.returns-then-field-lt897
returns-then-field-lt897 c = c.nearest_quotient.ensures ∙ sym (narrow-low c.args.bits c.requires c.if-field-lt873.false c.if-field-lt897.true)

pub overflow_add-result : goal.overflow_add-result
overflow_add-result c = omega (arith, c.nearest_quotient-then-field-lt1151.ensures, quotient_le (digits c.args.bits) 24 29 (digits_lt c.args.bits c.requires))

pub returns-then-field-lt1151 : goal.returns-then-field-lt1151
returns-then-field-lt1151 c =
    ap (λ (q : ℕ). (c.args.bits / 2 ^ 52 - 897) * 2 ^ 23 + q) c.nearest_quotient-then-field-lt1151.ensures
    ∙ sym (narrow-middle c.args.bits c.requires c.if-field-lt897.false c.if-field-lt1151.true)

pub returns : goal.returns
returns c = sym (narrow_high c.args.bits c.requires c.if-field-lt1151.false)
