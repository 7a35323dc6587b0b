-- A blank and five letters behind the tonic's.
use mathlib.Core.Path.{sym, ap, ◌∙◌}
use Prim.Native.Nat.{ℕ, ◌+◌}
use native.Mathlib.Omega.{arith}
use Rattle.key_names.proofs.Letters.{one-or-two, name-length}
use Rattle.key_names.proofs.name_length.Goals as goal

pub overflow_add-result : goal.overflow_add-result
overflow_add-result c = omega (arith, c.tonic_length.ensures, one-or-two c.args.key.tonic)

pub returns : goal.returns
returns c = ap (λ (n : ℕ). n + 6) c.tonic_length.ensures ∙ sym (name-length c.args.key)
