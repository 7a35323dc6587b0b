-- A mask of `width` ones keeps the remainder by 2 ^ width.
use mathlib.Core.Path.{◌≡◌, ap, ◌∙◌}
use Prim.Native.Nat.{ℕ, ◌-◌, ◌*◌, ◌%◌, ◌^◌, ◌<◌}
use native.Mathlib.Nat.{mod-eq_of_lt, one-mul}
use lib.Bits.{bit_and, and_mask}
use lib.Pow.{pow-lt}
use Rattle.bits.proofs.masks.low_bits.Goals as goal

-- the shift of one loses nothing
one_shifted : (width : ℕ) → width < 64 → 1 * 2 ^ width % 2 ^ 64 ≡ 2 ^ width
one_shifted width h = ap (λ (x : ℕ). x % 2 ^ 64) (one-mul (2 ^ width)) ∙ mod-eq_of_lt (pow-lt h)

pub returns : goal.returns
returns c =
    ap (λ (x : ℕ). bit_and c.args.number (x - 1)) (one_shifted c.args.width c.requires)
    ∙ and_mask c.args.number c.args.width
