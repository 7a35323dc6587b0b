-- A sharp tonic has two letters and any other one, and each byte of a name lies in the tonic, at the blank or in the mode.
use mathlib.Core.Path.{◌≡◌, refl, sym, ap, ◌∙◌, subst}
use mathlib.Core.List.{List, [], ◌∷◌, ◌++◌}
use Prim.Native.Nat.{ℕ, ◌+◌, ◌-◌, ◌≤◌, ◌<◌}
use native.Mathlib.Numerals.{add-one}
use native.Mathlib.Omega.{arith}
use mathlib.Core.Bool.{Bool, true, false, cond}
use lib.Dec.{eqb}
use lib.ListN.{length, get_or, length-append, get_or-append, get_or-eq_default}
use lib.Seq.{get_or-take, get_or-append-add, get_or-append_seam}
use Rattle.keys.specs.declared.Tonic.{Tonic}
use Rattle.keys.specs.declared.Tonic.TheVariants.{C, CSharp, D, DSharp, E, F, FSharp, G, GSharp, A, ASharp, B}
use Rattle.keys.specs.declared.Mode.{Mode}
use Rattle.keys.specs.declared.Mode.TheVariants.{Major, Minor}
use Rattle.keys.specs.declared.Key.{Key}
use Rattle.key_names.specs.Names.{tonic_name, mode_name, name_of, padded}

-- two letters where the second is the sharp sign
counted : (t : Tonic) → cond (eqb (get_or (padded (tonic_name t)) 1 0) 35) 2 1 ≡ length (tonic_name t)
counted C = refl
counted CSharp = refl
counted D = refl
counted DSharp = refl
counted E = refl
counted F = refl
counted FSharp = refl
counted G = refl
counted GSharp = refl
counted A = refl
counted ASharp = refl
counted B = refl

-- the same of a copy of the letters and a test that was made on it
pub counted-by : (t : Tonic) {letters : List ℕ} → letters ≡ padded (tonic_name t) → (sharp : Bool) → eqb (get_or letters 1 0) 35 ≡ sharp → cond sharp 2 1 ≡ length (tonic_name t)
counted-by t e sharp s = ap (λ (b : Bool). cond b 2 1) (sym s) ∙ ap (λ (l : List ℕ). cond (eqb (get_or l 1 0) 35) 2 1) e ∙ counted t

pub one-or-two : (t : Tonic) → length (tonic_name t) ≤ 2
one-or-two t = subst (λ (n : ℕ). n ≤ 2) (counted t) (go (eqb (get_or (padded (tonic_name t)) 1 0) 35))
  where
    go : (b : Bool) → cond b 2 1 ≤ 2
    go true = omega arith
    go false = omega arith

five : (m : Mode) → length (mode_name m) ≡ 5
five Major = refl
five Minor = refl

pub name-length : (k : Key) → length (name_of k) ≡ length (tonic_name k.tonic) + 6
unfolding name_of
name-length k = length-append (tonic_name k.tonic) (32 ∷ mode_name k.mode) ∙ let l = five k.mode in omega arith

-- ---- a byte by its place
module _ (k : Key) (i : ℕ) where
  pub in-tonic : i < length (tonic_name k.tonic) → get_or (padded (tonic_name k.tonic)) i 0 ≡ get_or (name_of k) i 0
  unfolding name_of
  in-tonic h =
      let name = tonic_name k.tonic in
      let two = one-or-two k.tonic in
      let under : i < 2 = omega arith in
      get_or-take 2 (name ++ (32 ∷ [])) i 0 under ∙ get_or-append name (32 ∷ []) 0 i h ∙ sym (get_or-append name (32 ∷ mode_name k.mode) 0 i h)

  pub at-blank : i ≡ length (tonic_name k.tonic) → 32 ≡ get_or (name_of k) i 0
  unfolding name_of
  at-blank e = rw e (sym (get_or-append_seam (tonic_name k.tonic) 32 (mode_name k.mode) 0))

  pub in-mode : length (tonic_name k.tonic) < i → get_or (mode_name k.mode) (i - length (tonic_name k.tonic) - 1) 0 ≡ get_or (name_of k) i 0
  unfolding name_of
  in-mode h =
      let name = tonic_name k.tonic in
      let j = i - length name - 1 in
      let place : i ≡ length name + (j + 1) = omega arith in
      sym (ap (λ (x : ℕ). get_or (name ++ (32 ∷ mode_name k.mode)) x 0) place ∙ get_or-append-add name (32 ∷ mode_name k.mode) (j + 1) 0 ∙ rw add-one)

  -- behind the mode there is nothing
  pub past-mode : 5 ≤ i → 0 ≡ get_or (mode_name k.mode) i 0
  past-mode h = sym (get_or-eq_default (mode_name k.mode) 0 (let l = five k.mode in omega arith))
