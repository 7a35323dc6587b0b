-- Of no bytes there are no bits.
use mathlib.Core.Path.{◌≡◌, refl}
use mathlib.Core.List.{List, [], ◌∷◌}
use Prim.Native.Nat.{ℕ}
use native.Mathlib.Omega.{arith}
use lib.ListN.{length}
use Rattle.bits.specs.Bits.{number_of, bits_of_bytes}
use Rattle.card_form.specs.Form.{number_on}
use Rattle.card_reader.proofs.on_card.number_on.Goals as goal

-- no bytes name number 0
nothing-on : (bytes : List ℕ) → length bytes ≡ 0 → 0 ≡ number_on (bits_of_bytes bytes)
unfolding number_of bits_of_bytes
nothing-on [] none = refl
nothing-on (b ∷ bytes) none = absurd (omega arith)

pub returns-then-bytes-eq0 : goal.returns-then-bytes-eq0
returns-then-bytes-eq0 c = nothing-on c.args.bytes.now c.if-bytes-eq0.true
