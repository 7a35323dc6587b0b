-- A subnormal number goes by its shifted digits, a normal one by its fields.
use Prim.Native.Nat.{ℕ, ◌-◌, ◌*◌, ◌^◌}
use mathlib.Core.Path.{sym, ap, ◌∙◌}
use native.Mathlib.Omega.{arith}
use lib.Count.{count_leading_zeros}
use Rattle.roots.specs.Root.{root_of_units}
use Rattle.roots.proofs.Parts.{Lifted, lifted, shifted, lifted-parts}
use Rattle.roots.proofs.Values.{root-of-subnormal, root-of-normal}
use Rattle.roots.proofs.root_of_bits.Goals as goal

pub overflow_sub-z : goal.overflow_sub-z
overflow_sub-z c =
    let subnormal : Lifted c.args.b (count_leading_zeros 32 c.args.b) = lifted c.args.b c.requires.0 c.if-b-lt8388608.true in
    omega (arith, subnormal)

pub overflow_shl-b : goal.overflow_shl-b
overflow_shl-b c =
    let subnormal : Lifted c.args.b (count_leading_zeros 32 c.args.b) = lifted c.args.b c.requires.0 c.if-b-lt8388608.true in
    omega (arith, subnormal)

pub overflow_sub-z-then-b-lt8388608 : goal.overflow_sub-z-then-b-lt8388608
overflow_sub-z-then-b-lt8388608 c =
    let subnormal : Lifted c.args.b (count_leading_zeros 32 c.args.b) = lifted c.args.b c.requires.0 c.if-b-lt8388608.true in
    omega (arith, subnormal)

pub root_of_parts-requires : goal.root_of_parts-requires
root_of_parts-requires c =
    let subnormal : Lifted c.args.b (count_leading_zeros 32 c.args.b) = lifted c.args.b c.requires.0 c.if-b-lt8388608.true in
    lifted-parts c.args.b (count_leading_zeros 32 c.args.b) (subnormal)

pub returns-then-b-lt8388608 : goal.returns-then-b-lt8388608
returns-then-b-lt8388608 c =
    let subnormal : Lifted c.args.b (count_leading_zeros 32 c.args.b) = lifted c.args.b c.requires.0 c.if-b-lt8388608.true in
    let b = c.args.b in
    let l = count_leading_zeros 32 b in
    let v = subnormal in
    record {
      finite = c.root_of_parts.ensures.finite;
      value =
          c.root_of_parts.ensures.value
          ∙ ap (λ (s : ℕ). root_of_units (s * 2 ^ (126 - (l - 8) - 75))) (shifted b l v)
          ∙ sym (root-of-subnormal b (l - 8) c.requires.0 c.if-b-lt8388608.true (omega (arith, v.most)));
    }

pub returns-else-b-lt8388608 : goal.returns-else-b-lt8388608
returns-else-b-lt8388608 c =
    record {
      finite = c.root_of_parts-else-b-lt8388608.ensures.finite;
      value = c.root_of_parts-else-b-lt8388608.ensures.value ∙ sym (root-of-normal c.args.b c.if-b-lt8388608.false c.requires.1);
    }
