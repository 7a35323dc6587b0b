-- A search for the last number whose count is at most the rank: it lies in a stretch of numbers, and a turn keeps the part in which it lies.
use mathlib.Core.Path.{◌≡◌, subst}
use Prim.Native.Nat.{ℕ, ◌+◌, ◌-◌, ◌≤◌, ◌<◌}
use native.Mathlib.Omega.{arith}
use mathlib.Core.List.{List}
use lib.ListN.{take}
use lib.Ieee.{Float}
use Rattle.ranks.specs.inside.Search.{count_below, SoughtIn}

module _ (values : List Float) (n rank key width half : ℕ) (now : SoughtIn values n rank key width) (some : 0 < half) (less : half < width) where
  pub upper-part : count_below (take n values) (key + half) ≤ rank → SoughtIn values n rank (key + half) (width - half)
  upper-part l =
      let end : key + width ≡ key + half + (width - half) = omega arith in
      record { inside = now.inside; room = now.room; some = omega arith; keys = omega (arith, now.keys); least = l; most = subst (λ (k : ℕ). rank < count_below (take n values) k) end now.most }

  pub lower-part : rank < count_below (take n values) (key + half) → SoughtIn values n rank key half
  lower-part l = record { inside = now.inside; room = now.room; some = some; keys = omega (arith, now.keys); least = now.least; most = l }
