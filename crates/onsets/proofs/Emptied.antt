-- Work numbers that are written and zeroed again and again end as after the first time.
use mathlib.Core.Path.{◌≡◌, refl, sym, ap, ◌∙◌}
use mathlib.Core.List.{List}
use native.Mathlib.Nat.{not-suc-le-zero}
use Prim.Native.Nat.{ℕ, ◌+◌, ◌<◌, ◌≤◌}
use lib.ListN.{length, take, replicate, length-replicate}
use lib.Ieee.{Float}
use lib.Seq.{take_at}
use Rattle.laws.specs.Front.{front, list}
use Rattle.laws.specs.Values.{plus_zero}
use Rattle.laws.proofs.Front.{front-front, length_front, length-list}

abbrev pub zeros : ℕ → List Float
zeros count = replicate count plus_zero

-- after so many times of writing and zeroing the first numbers
pub record Emptied (count : ℕ) (m₀ m : List Float) (times : ℕ) : Type 0 where
  pub long : length m ≡ length m₀
  pub over : (xs : List Float) → length xs ≡ count → front xs m ≡ front xs m₀
  pub ended : 0 < times → m ≡ front (zeros count) m₀

pub emptied-start : (count : ℕ) (m : List Float) → Emptied count m m 0
emptied-start count m = record { long = refl; over = λ xs h. refl; ended = λ h. absurd (not-suc-le-zero h) }

pub emptied-again : {count : ℕ} {m₀ m written left : List Float} {times : ℕ} (f : ℕ → Float) → Emptied count m₀ m times → count ≤ length m₀ → written ≡ front (list f count) m → left ≡ front (zeros count) written → Emptied count m₀ left (times + 1)
emptied-again {count} {m₀} {m} {written} {left} f e h w l =
    let zero-long = length-replicate count plus_zero in
    let all : left ≡ front (zeros count) m₀ = l ∙ ap (front (zeros count)) w ∙ front-front (zeros count) (list f count) m (zero-long ∙ sym (length-list f count)) ∙ e.over (zeros count) zero-long in
    record {
      long = ap length all ∙ length_front (zeros count) m₀ (rw zero-long h);
      over = λ xs k. ap (front xs) all ∙ front-front xs (zeros count) m₀ (k ∙ sym zero-long);
      ended = λ _. all;
    }

-- what was written is read back
pub written_back : (f : ℕ → Float) (count : ℕ) (m : List Float) → take count (front (list f count) m) ≡ list f count
written_back f count m = take_at (list f count) _ count (length-list f count)
