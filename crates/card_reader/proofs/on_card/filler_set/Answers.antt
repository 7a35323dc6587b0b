-- What is read are all bits behind the last segment.
use mathlib.Core.Path.{ap, ◌∙◌}
use mathlib.Core.Bool.{not}
use Prim.Native.Nat.{ℕ, ◌+◌, ◌-◌, ◌*◌, ◌^◌, ◌≤◌}
use native.Mathlib.Omega.{arith}
use lib.Dec.{eqb}
use lib.ListN.{length, drop, length-drop}
use lib.Seq.{take_all}
use Rattle.bits.specs.Bits.{number_of, bits_of_bytes}
use Rattle.bits.proofs.Digits.{length-bytes, few_bits}
use Rattle.card_form.specs.Form.{segment_place, filler_set}
use Rattle.card_reader.proofs.on_card.filler_set.Goals as goal

pub overflow_mul-at : goal.overflow_mul-at
overflow_mul-at c =
    let few : c.args.count * (c.args.l.end + 5 + 10) ≤ 2 ^ 32 * 56 = few_bits c.args.count c.args.l.end c.requires.1 c.requires.0.end in
    omega (arith, few)

pub overflow_add-at-4 : goal.overflow_add-at-4
overflow_add-at-4 c =
    let few : c.args.count * (c.args.l.end + 5 + 10) ≤ 2 ^ 32 * 56 = few_bits c.args.count c.args.l.end c.requires.1 c.requires.0.end in
    omega (arith, few, c.requires.0.count)

pub overflow_mul-bytes : goal.overflow_mul-bytes
overflow_mul-bytes c =
    let few : c.args.count * (c.args.l.end + 5 + 10) ≤ 2 ^ 32 * 56 = few_bits c.args.count c.args.l.end c.requires.1 c.requires.0.end in
    omega (arith, few, c.requires)

pub overflow_sub-bytes : goal.overflow_sub-bytes
overflow_sub-bytes c = omega (arith, c.requires)

pub get_bits-filler-requires : goal.get_bits-filler-requires
get_bits-filler-requires c = (omega (arith, c.requires), omega (arith, c.requires))

pub returns : goal.returns
unfolding filler_set
returns c =
    let bits = bits_of_bytes c.args.bytes.now in
    let at = segment_place c.args.l c.args.count in
    let rest = length c.args.bytes.now * 8 - at in
    let all : length (drop at bits) ≤ rest = rw (length-drop at bits, length-bytes c.args.bytes.now) (omega arith) in
    ap (λ (number : ℕ). not (eqb number 0)) (c.get_bits-filler.ensures ∙ ap number_of (take_all rest (drop at bits) all))
    ∙ ap (λ (n : ℕ). not (eqb (number_of (drop (segment_place c.args.l n) bits)) 0)) c.requires.2
