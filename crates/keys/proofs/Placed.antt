-- A tonic stands at its number among the tonics, so the numbers from 0 to 23 and the keys are the same thing.
use mathlib.Core.Path.{◌≡◌, refl, sym, ap, ◌∙◌}
use Prim.Native.Nat.{ℕ, ◌+◌, ◌%◌, ◌<◌}
use native.Mathlib.Nat.{mod-eq_of_lt}
use native.Mathlib.Omega.{arith}
use lib.Dec.{eqb, lit<, eqb→eq}
use lib.ListN.{get_or}
use lib.Ieee.Fits.{eq→eqb}
use borrow.Author.Tests.{lt-ltb, le-ltb}
use Rattle.laws.specs.Every.{every}
use Rattle.laws.proofs.Every.{each}
use Rattle.keys.specs.declared.Tonic.{Tonic}
use Rattle.keys.specs.declared.Tonic.TheVariants.{C, CSharp, D, DSharp, E, F, FSharp, G, GSharp, A, ASharp, B}
use Rattle.keys.specs.declared.Mode.{Mode}
use Rattle.keys.specs.declared.Mode.TheVariants.{Major, Minor}
use Rattle.keys.specs.Numbers.{tonic_number, tonics, numbered, key_number, key_at, NumbersAreKeys}

record Placed (t : Tonic) : Type 0 where
  below : tonic_number t < 12
  there : get_or tonics (tonic_number t) C ≡ t

placed : (t : Tonic) → Placed t
unfolding tonics
placed C = record { below = lit< tt; there = refl }
placed CSharp = record { below = lit< tt; there = refl }
placed D = record { below = lit< tt; there = refl }
placed DSharp = record { below = lit< tt; there = refl }
placed E = record { below = lit< tt; there = refl }
placed F = record { below = lit< tt; there = refl }
placed FSharp = record { below = lit< tt; there = refl }
placed G = record { below = lit< tt; there = refl }
placed GSharp = record { below = lit< tt; there = refl }
placed A = record { below = lit< tt; there = refl }
placed ASharp = record { below = lit< tt; there = refl }
placed B = record { below = lit< tt; there = refl }

pub tonic-below : (t : Tonic) → tonic_number t < 12
tonic-below t = (placed t).below

number-below : (t : Tonic) (m : Mode) → numbered m (tonic_number t) < 24
number-below t Major = omega (arith, tonic-below t)
number-below t Minor = omega (arith, tonic-below t)

-- a key by its number's parts
key-parts : (t : Tonic) (m : Mode) → key_at (numbered m (tonic_number t)) ≡ record { tonic = t; mode = m }
key-parts t Major =
    let l = tonic-below t in
    rw (mod-eq_of_lt l, lt-ltb (tonic_number t) 12 l, (placed t).there)
key-parts t Minor =
    let l = tonic-below t in
    let z : (12 + tonic_number t) % 12 ≡ tonic_number t = omega arith in
    rw (z, le-ltb (12 + tonic_number t) 12 (omega arith), (placed t).there)

-- computed for all 24 numbers at once
number_back : (n : ℕ) → n < 24 → key_number (key_at n) ≡ n
unfolding every tonics
number_back n h = eqb→eq (key_number (key_at n)) n (each (λ (k : ℕ). eqb (key_number (key_at k)) k) 24 tt n h)

pub numbers-are-keys : NumbersAreKeys
numbers-are-keys = record {
  below = λ k. number-below k.tonic k.mode;
  key_back = λ k. key-parts k.tonic k.mode;
  number_back = number_back;
  equal = λ a b. (λ t. sym (key-parts a.tonic a.mode) ∙ ap key_at (eqb→eq (key_number a) (key_number b) t) ∙ key-parts b.tonic b.mode, λ e. eq→eqb (ap key_number e));
}
