-- What the guards of the filters' probes tell.
use mathlib.Core.Path.{◌≡◌, sym, subst}
use mathlib.Core.Bool.{Bool, true, false, not, ◌&&◌}
use mathlib.Core.List.{[], ◌∷◌}
use Prim.Native.Nat.{ℕ, ◌+◌, ◌-◌, ◌<◌, ◌≤◌}
use native.Mathlib.Omega.{arith}
use borrow.Author.Tests.{leb-true, eqb-true, le-leb, lt-leb, not-true, not-false}
use lib.Dec.{T, leb, eqb, leb→le}
use Rattle.laws.proofs.Cases.{same_test}
use Rattle.laws.proofs.Table.{each_of}
use Rattle.probe.specs.Filters.{reaches_to, rows_fit, rows_held}

module _ (start size samples : ℕ) where
  pub begins-behind : samples < start → false ≡ reaches_to start size samples
  begins-behind h = let l : samples < start + size = omega arith in sym (lt-leb (start + size) samples l)

  pub reaches-is : start ≤ samples → leb size (samples - start) ≡ reaches_to start size samples
  reaches-is h =
      same_test (leb size (samples - start)) (leb (start + size) samples)
      (λ t. let l = leb→le size (samples - start) t in let k : start + size ≤ samples = omega arith in subst T (sym (le-leb (start + size) samples k)) tt)
      (λ t. let l = leb→le (start + size) samples t in let k : size ≤ samples - start = omega arith in subst T (sym (le-leb size (samples - start) k)) tt)

-- a guard of two tests, by what the calls answered
module _ {x y a b : Bool} (p : x ≡ a) (q : y ≡ b) where
  pub both-passed : not (x && y) ≡ false → (a && b) ≡ true
  both-passed t = rw (← p, ← q) (not-false (x && y) t)

  pub not-both : not (x && y) ≡ true → (a && b) ≡ false
  not-both t = rw (← p, ← q) (not-true (x && y) t)

-- rows that fit
pub record Fit (rows others : ℕ) : Type 0 where
  pub alike : rows ≡ others
  pub few : rows ≤ 256
  pub others_few : others ≤ 256

pub first-passed : (a b : Bool) → (a && b) ≡ true → a ≡ true
first-passed a b e = each_of (a ∷ b ∷ []) e 0

pub rows-fitting : (a : Bool) (rows others : ℕ) → (a && rows_fit rows others) ≡ true → Fit rows others
rows-fitting a rows others e =
    let fit = each_of (eqb rows others ∷ leb rows 256 ∷ []) (each_of (a ∷ rows_fit rows others ∷ []) e 1) in
    let alike = eqb-true rows others (fit 0) in
    let few = leb-true rows 256 (fit 1) in
    record { alike = alike; few = few; others_few = omega arith }

-- rows that have places
pub record Held (rows places : ℕ) : Type 0 where
  pub few : rows ≤ 256
  pub placed : rows ≤ places

pub rows-holding : (a : Bool) (rows places : ℕ) → (a && rows_held rows places) ≡ true → Held rows places
rows-holding a rows places e =
    let held = each_of (leb rows 256 ∷ leb rows places ∷ []) (each_of (a ∷ rows_held rows places ∷ []) e 1) in
    record { few = leb-true rows 256 (held 0); placed = leb-true rows places (held 1) }
