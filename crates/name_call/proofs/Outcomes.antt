-- From what the callees say to the outcome of a call.
use mathlib.Core.Path.{◌≡◌, ap, ◌∙◌, subst}
use mathlib.Core.List.{List}
use Prim.Native.Nat.{ℕ, ◌≤◌, ◌<◌}
use lib.ListN.{length}
use borrow.Author.Tests.{lt-ltb, le-ltb}
use Rattle.laws.specs.Front.{front}
use Rattle.keys.specs.declared.Key.{Key}
use Rattle.keys.specs.Numbers.{key_at}
use Rattle.key_names.specs.Names.{name_of}
use Rattle.written.specs.declared.Written.{Written}
use Rattle.written.specs.Outcome.{answered, bytes_outcome}
use Rattle.name_call.specs.KeyNames.{key_name_of}

module _ (number : ℕ) (bytes : List ℕ) where
  pub no_key : {r : Written} → 23 < number → r ≡ answered 11 0 → bytes_outcome r bytes ≡ key_name_of number bytes
  no_key h e = ap (λ (a : Written). bytes_outcome a bytes) e ∙ rw (lt-ltb 23 number h)

  module _ {key : Key} {count : ℕ} (h : number ≤ 23) (k : key ≡ key_at number) (l : count ≡ length (name_of key)) where
    long : count ≡ length (name_of (key_at number))
    long = l ∙ ap (λ (z : Key). length (name_of z)) k

    pub no_room : {r : Written} → length bytes < count → r ≡ answered 12 0 → bytes_outcome r bytes ≡ key_name_of number bytes
    no_room s e = ap (λ (a : Written). bytes_outcome a bytes) e ∙ rw (le-ltb 23 number h, lt-ltb (length bytes) _ (subst (λ (n : ℕ). length bytes < n) long s))

    pub written : {n : ℕ} {left : List ℕ} → count ≤ length bytes → n ≡ length (name_of key) → left ≡ front (name_of key) bytes → bytes_outcome (answered 0 n) left ≡ key_name_of number bytes
    written {n} {left} s e f =
        ap (λ (m : ℕ). bytes_outcome (answered 0 m) left) (e ∙ ap (λ (z : Key). length (name_of z)) k)
        ∙ ap (bytes_outcome _) (f ∙ ap (λ (z : Key). front (name_of z) bytes) k)
        ∙ rw (le-ltb 23 number h, le-ltb (length bytes) _ (subst (λ (m : ℕ). m ≤ length bytes) long s))
