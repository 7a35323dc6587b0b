-- Where the bytes suffice for the count, all are there; else as many as the bits behind the header hold.
use mathlib.Core.Path.{◌≡◌, ap, subst, ◌∙◌}
use Prim.Native.Nat.{ℕ, ◌≤◌, ◌<◌}
use native.Mathlib.Omega.{arith}
use lib.ListN.{length}
use Rattle.bits.specs.Bits.{bits_of_bytes}
use Rattle.bits.proofs.Digits.{few_bits}
use Rattle.card_form.specs.Form.{card_size, count_on}
use Rattle.card_mender.proofs.Standing.{standing-claimed, standing-cut}
use Rattle.card_mender.proofs.segments.standing_count.Goals as goal

pub returns-then-bytes-card_size : goal.returns-then-bytes-card_size
returns-then-bytes-card_size c =
    let size_is : let args = c.args in c.card_size.result ≡ card_size args.l (count_on args.l (bits_of_bytes args.bytes.now)) = c.card_size.ensures ∙ ap (card_size c.args.l) c.requires.2 in
    c.requires.2 ∙ standing-claimed c.args.l c.args.bytes.now (subst (λ (n : ℕ). n ≤ length c.args.bytes.now) size_is c.if-bytes-card_size.true)

pub overflow_mul-result : goal.overflow_mul-result
overflow_mul-result c = omega (arith, few_bits c.args.claimed c.args.l.end c.requires.3 c.requires.0.end, c.requires.0.count, c.if-bytes-card_size.false, c.card_size.ensures)

pub returns : goal.returns
returns c =
    let size_is : let args = c.args in c.card_size.result ≡ card_size args.l (count_on args.l (bits_of_bytes args.bytes.now)) = c.card_size.ensures ∙ ap (card_size c.args.l) c.requires.2 in
    standing-cut c.args.l c.args.bytes.now (subst (λ (n : ℕ). length c.args.bytes.now < n) size_is c.if-bytes-card_size.false) c.requires.1
