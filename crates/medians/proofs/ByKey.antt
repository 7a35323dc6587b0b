-- The median is the value with the key at the middle rank.
use mathlib.Core.Path.{◌≡◌, ap, ◌∙◌}
use mathlib.Core.List.{List}
use Prim.Native.Nat.{ℕ, ◌/◌, ◌<◌}
use native.Mathlib.Omega.{arith}
use lib.ListN.{length, get_or}
use lib.Ieee.{Float, nan, binary32}
use Rattle.ranks.specs.Sorted.{sorted_of}
use Rattle.ranks.specs.inside.Search.{key_at_rank, value_of_key}
use Rattle.ranks.proofs.Count.{each_all, each_at}
use Rattle.ranks.proofs.Sorted.{length-sorted, each-sorted, InSingle}
use Rattle.ranks.proofs.Keys.{value-back}
use Rattle.medians.specs.Median.{median_of}

pub median-by-key : (xs : List Float) (rank key : ℕ) → 0 < length xs → ((i : ℕ) → InSingle (get_or xs i nan)) → rank ≡ length xs / 2 → key ≡ key_at_rank xs rank → value_of_key binary32 key ≡ median_of xs
unfolding median_of key_at_rank
median-by-key xs rank key some fit middle e =
    let inside : rank < length (sorted_of xs) = omega (arith, length-sorted xs) in
    ap (value_of_key binary32) e
    ∙ value-back binary32 (get_or (sorted_of xs) rank nan) (each_at {P = InSingle} (each-sorted (each_all xs nan fit)) rank nan inside)
    ∙ ap (λ (k : ℕ). get_or (sorted_of xs) k nan) middle
