-- A float up to a whole number of seconds has no more milliseconds than they have.
use mathlib.Core.Path.{◌≡◌}
use mathlib.Core.Bool.{true, false}
use Prim.Native.Nat.{ℕ, ◌+◌, ◌*◌, ◌/◌, ◌^◌, ◌≤◌}
use native.Mathlib.Nat.{le_refl, le-div_iff_mul-le}
use native.Mathlib.Omega.{arith}
use lib.Dec.{T, lit≤}
use lib.Ieee.{Float, nan, inf, fin, binary64, le}
use lib.Ieee.Positive.{num, den, den_pos}
use borrow.Author.Tests.{le-leb}
use Rattle.laws.specs.Convert.{parts}
use Rattle.laws.specs.Values.{nonneg}
use Rattle.laws.proofs.Nonneg.{le→cross}
use Rattle.laws.proofs.Parts.{parts_held, parts-cross}
use Rattle.std.specs.Prelude.{unwrap_or}
use Rattle.packed.specs.Packing.{limited, milliseconds_of}
use Rattle.card_ends.specs.Times.{TimesHeld}
use Rattle.card_ends.proofs.Times.{under-step}

-- a number that the limit admits is packed
admitted : (limit n : ℕ) → n ≤ limit → unwrap_or (limited limit n) (limit + 1) ≡ n
admitted limit n h = rw (le-leb n limit h)

pub times-held : TimesHeld
times-held seconds few x time below limit room = go x time.at_least_zero below
  where
    y : Float
    y = parts binary64 0 seconds

    go : (z : Float) → T (nonneg z) → T (le z y) → unwrap_or (milliseconds_of z limit) (limit + 1) ≤ seconds * 1000
    go nan p h = absurd p
    go (inf s) p h = absurd p
    go (fin true m e) p h = absurd p
    go (fin false m e) p h =
        let x = fin false m e in
        let n = num x * 1000 / den x in
        let under = le→cross x y p (parts_held binary64 0 (lit≤ tt) seconds few).at_least_zero h in
        let reached : n * den x ≤ num x * 1000 = (le-div_iff_mul-le (den_pos x)).0 (le_refl n) in
        let low : n * 2 ^ 0 ≤ seconds * 1000 = under-step n (num x) (den x) (num y) (den y) seconds (2 ^ 0) (den_pos x) (den_pos y) reached under (parts-cross binary64 0 (lit≤ tt) seconds few) in
        rw (admitted limit n (omega (arith, low, room))) (omega (arith, low))
