-- From what the callees say to the outcome of a call.
use mathlib.Core.Path.{◌≡◌, ap, ap₂, ◌∙◌, subst}
use mathlib.Core.Bool.{Bool, true, false}
use mathlib.Core.List.{List}
use Prim.Native.Nat.{ℕ, ◌≤◌, ◌<◌}
use lib.ListN.{length}
use borrow.Author.Tests.{lt-ltb, le-ltb}
use Rattle.laws.specs.Front.{front}
use Rattle.written.specs.declared.Written.{Written}
use Rattle.written.specs.Outcome.{answered, bytes_outcome, written_as}

module _ (unwritable : Bool) (content bytes : List ℕ) where
  pub cannot-write : {r : Written} → unwritable ≡ true → r ≡ answered 11 0 → bytes_outcome r bytes ≡ written_as unwritable content bytes
  cannot-write t e = ap (λ (w : Written). bytes_outcome w bytes) e ∙ rw t

  module _ (held : unwritable ≡ false) {size : ℕ} (s : size ≡ length content) where
    pub too_short : {r : Written} → length bytes < size → r ≡ answered 12 0 → bytes_outcome r bytes ≡ written_as unwritable content bytes
    too_short less e = ap (λ (w : Written). bytes_outcome w bytes) e ∙ rw (held, lt-ltb (length bytes) _ (subst (λ (n : ℕ). length bytes < n) s less))

    pub wrote : {n : ℕ} {left : List ℕ} → size ≤ length bytes → n ≡ length content → left ≡ front content bytes → bytes_outcome (answered 0 n) left ≡ written_as unwritable content bytes
    wrote room e f = ap₂ (λ (m : ℕ) (after : List ℕ). bytes_outcome (answered 0 m) after) e f ∙ rw (held, le-ltb (length bytes) _ (subst (λ (m : ℕ). m ≤ length bytes) s room))
