-- By the parity of e, the power is one of two numerals.
use mathlib.Core.Path.{◌≡◌, sym, ap}
use Prim.Native.Nat.{ℕ, ◌+◌, ◌*◌, ◌^◌, ◌%◌}
use borrow.Author.Rules.{rules}
use native.Mathlib.Omega.{arith}
use Rattle.roots.proofs.evened.Goals as goal

power : (s d : ℕ) {r : ℕ} → d ≡ r → s * 2 ^ (23 + r) ≡ s * 2 ^ (23 + d)
power s d e = ap (λ (x : ℕ). s * 2 ^ (23 + x)) (sym e)

odd : (e : ℕ) → (e % 2 ≡ 0 → ⊥) → e % 2 ≡ 1
odd e h = omega arith

pub returns-then-e-eq0 : goal.returns-then-e-eq0
returns-then-e-eq0 c = record { scaled = search rules; value = power c.args.s (c.args.e % 2) c.if-e-eq0.true }

pub returns-else-e-eq0 : goal.returns-else-e-eq0
returns-else-e-eq0 c = record { scaled = search rules; value = power c.args.s (c.args.e % 2) (odd c.args.e c.if-e-eq0.false) }
