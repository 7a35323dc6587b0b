-- The first ones of three records rest on no more windows than all three: those behind them only add.
use mathlib.Core.Path.{◌≡◌, ap}
use Prim.Native.Nat.{ℕ, ◌^◌, ◌<◌}
use native.Mathlib.Omega.{arith}
use mathlib.Core.List.{List, [], ◌∷◌, ◌++◌}
use lib.ListN.{take, drop, take-append-drop}
use Rattle.timeline.specs.Counts.{total_windows}
use Rattle.timeline.specs.declared.segment.Segment.{Segment}
use Rattle.timeline.proofs.Counts.{total-append}
use Rattle.joining.specs.Threes.{windows_of_three}

pub first-fit : (n : ℕ) (first second third : Segment) → windows_of_three first second third < 2 ^ 32 → total_windows (take n (first ∷ second ∷ third ∷ [])) < 2 ^ 32
first-fit n first second third fits =
    let all : List Segment = first ∷ second ∷ third ∷ [] in
    let apart = total-append (take n all) (drop n all) in
    let together : total_windows (take n all ++ drop n all) ≡ total_windows all = ap total_windows (take-append-drop n all) in
    omega (arith, apart, together, fits)
