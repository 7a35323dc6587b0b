-- By the two tests of the definition; what is left is how a quotient is rounded.
use Rattle.std.specs.Prelude.{Some, None}
use mathlib.Core.Path.{◌≡◌, refl, sym, ap, ◌∙◌}
use mathlib.Core.Bool.{Bool, true, false, cond}
use Prim.Native.Nat.{ℕ, ◌+◌, ◌*◌, ◌/◌, ◌≤◌, ◌<◌}
use native.Mathlib.Nat.{le_of_eq, le-div_iff_mul-le, div-lt_iff_lt-mul}
use native.Mathlib.Omega.{arith}
use lib.Dec.{leb}
use lib.IntN.{ℤ}
use lib.Ieee.{Float, nan, inf, fin, up, down}
use lib.Ieee.Fits.{down_pos}
use borrow.Author.Tests.{leb-true, le-leb}
use Rattle.packed.specs.Packing.{limited, below_zero, whole_times}
use Rattle.packed.specs.Down.{RoundedDown, PacksDown, PackedRoundDown}
use Rattle.packed.proofs.Signs.{below-zero}

never : {k : ℕ} → None ≡ Some k → ⊥
never e = let z : ◌≡◌ {A = ℕ} 0 1 = cc in omega arith

module _ (s : Bool) (m : ℕ) (e : ℤ) (n limit k : ℕ) where
  abbrev q : ℕ
  q = m * up e * n / down e

  -- a number that is not refused is the quotient
  rounded : below_zero s m ≡ false → q ≡ k → RoundedDown (fin s m e) n k
  rounded plus is =
      record {
        is_finite = tt;
        from_zero = below-zero s m e ∙ plus;
        reached = (le-div_iff_mul-le (down_pos e)).0 (le_of_eq (sym is));
        next_beyond = (div-lt_iff_lt-mul (down_pos e)).0 (omega (arith, is));
      }

  by_tests : (below : Bool) → below_zero s m ≡ below → (within : Bool) → leb q limit ≡ within → cond below None (cond within (Some q) None) ≡ Some k → RoundedDown (fin s m e) n k × (k ≤ limit)
  by_tests true b within w p = absurd (never p)
  by_tests false b true w p = let is : q ≡ k = cc (p) in (rounded b is, omega (arith, is, leb-true q limit w))
  by_tests false b false w p = absurd (never p)

  -- and the quotient is not refused up to the limit
  by-quotient : RoundedDown (fin s m e) n k → k ≤ limit → whole_times (fin s m e) n limit ≡ Some k
  by-quotient r within =
      let reached : k ≤ q = (le-div_iff_mul-le (down_pos e)).1 r.reached in
      let before : q < k + 1 = (div-lt_iff_lt-mul (down_pos e)).1 r.next_beyond in
      let is : q ≡ k = omega (arith, reached, before) in
      ap (λ (b : Bool). cond b None (limited limit q)) (sym (below-zero s m e) ∙ r.from_zero) ∙ ap (limited limit) is ∙ ap (λ (b : Bool). cond b (Some k) None) (le-leb k limit within)

module _ (n limit : ℕ) where
  only : (x : Float) (k : ℕ) → whole_times x n limit ≡ Some k → RoundedDown x n k × (k ≤ limit)
  only nan k p = absurd (never p)
  only (inf s) k p = absurd (never p)
  only (fin s m e) k p = by_tests s m e n limit k (below_zero s m) refl (leb (m * up e * n / down e) limit) refl p

  whenever : (x : Float) (k : ℕ) → RoundedDown x n k → k ≤ limit → whole_times x n limit ≡ Some k
  whenever nan k r within = absurd r.is_finite
  whenever (inf s) k r within = absurd r.is_finite
  whenever (fin s m e) k r within = by-quotient s m e n limit k r within

  times-pack-down : PacksDown n limit (λ (x : Float). whole_times x n limit)
  times-pack-down = record { only = only; whenever = whenever }

pub packed-round-down : PackedRoundDown
packed-round-down = record { thousandths = times-pack-down 1000 1000; milliseconds = times-pack-down 1000 }
