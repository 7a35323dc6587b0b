-- A room that was written from the front, four places at a time, and read back as far as it was written.
use mathlib.Core.Path.{◌≡◌, subst, ap, ◌∙◌}
use mathlib.Core.List.{List}
use Prim.Native.Nat.{ℕ, ◌+◌, ◌≤◌}
use native.Mathlib.Omega.{arith}
use lib.ListN.{length, take, set}
use lib.Seq.{take_at}
use Rattle.laws.specs.Front.{front, list}
use Rattle.laws.proofs.Front.{length-list, Filled, filled_more}

module _ {A : Type 0} (f : ℕ → A) (n : ℕ) (m : List A) {written : List A} (e : written ≡ front (list f n) m) where
  pub read_back : take n written ≡ list f n
  read_back = ap (take n) e ∙ take_at (list f n) _ n (length-list f n)

  pub read-long : length (take n written) ≡ n
  read-long = ap length read_back ∙ length-list f n

-- four more
pub filled-four : {A : Type 0} (f : ℕ → A) (m₀ m : List A) (k : ℕ) → Filled f m₀ m k → k + 4 ≤ length m₀
    → Filled f m₀ (set (set (set (set m k (f k)) (k + 1) (f (k + 1))) (k + 2) (f (k + 2))) (k + 3) (f (k + 3))) (k + 4)
filled-four f m₀ m k e h =
    let second : k + 1 + 1 ≡ k + 2 = omega arith in
    let third : k + 2 + 1 ≡ k + 3 = omega arith in
    let fourth : k + 3 + 1 ≡ k + 4 = omega arith in
    let one = filled_more f m₀ m k e (omega arith) in
    let two = subst (Filled f m₀ _) second (filled_more f m₀ _ (k + 1) one (omega arith)) in
    let three = subst (Filled f m₀ _) third (filled_more f m₀ _ (k + 2) two (omega arith)) in
    subst (Filled f m₀ _) fourth (filled_more f m₀ _ (k + 3) three (omega arith))
