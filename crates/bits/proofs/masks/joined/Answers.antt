-- `card::bits::joined` meets its contract: nothing is shifted out, and `|` adds numbers that share no bit.
use mathlib.Core.Path.{ap, ◌∙◌}
use Prim.Native.Nat.{ℕ}
use native.Mathlib.Nat.{mod-eq_of_lt}
use lib.Bits.{bit_or, or_shifted}
use Rattle.bits.proofs.masks.joined.Goals as goal

pub returns : goal.returns
returns c =
    ap (λ (high : ℕ). bit_or high c.args.low) (mod-eq_of_lt c.requires.1)
    ∙ or_shifted c.args.high c.args.width c.args.low c.requires.2
