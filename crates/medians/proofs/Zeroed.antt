-- The first numbers of a slice zeroed, and those behind them as they stood.
use mathlib.Core.Path.{◌≡◌, sym, ap, ◌∙◌}
use mathlib.Core.List.{List, ◌++◌}
use Prim.Native.Nat.{ℕ, ◌≤◌}
use lib.ListN.{length, take, drop, replicate, length-replicate}
use lib.Seq.{length-take-le}
use lib.Ieee.{Float}
use Rattle.laws.specs.Front.{front}
use Rattle.laws.specs.Values.{plus_zero}

pub zeroed-first : {count : ℕ} (work : List Float) {values : List Float} → count ≤ length work → values ≡ replicate (length (take count work)) plus_zero → values ++ drop count work ≡ front (replicate count plus_zero) work
zeroed-first {count} work h e =
    ap (λ (l : List Float). l ++ drop count work) (e ∙ ap (λ (n : ℕ). replicate n plus_zero) (length-take-le count work h))
    ∙ ap (λ (k : ℕ). replicate count plus_zero ++ drop k work) (sym (length-replicate count plus_zero))
