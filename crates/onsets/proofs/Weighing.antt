-- Weights written once: one root is carried from frame to frame, and a weight is read back.
use mathlib.Core.Path.{◌≡◌, sym, ap, ◌∙◌}
use mathlib.Core.Bool.{cond}
use mathlib.Core.List.{List}
use native.Mathlib.Omega.{arith}
use Prim.Native.Nat.{ℕ, zero, suc, ◌-◌, ◌<◌}
use lib.Dec.{eqb}
use lib.ListN.{length, get_or, take}
use lib.Ieee.{Float, nan}
use Rattle.laws.specs.Front.{front, list}
use Rattle.laws.specs.Values.{one}
use Rattle.laws.proofs.Front.{get_or-list, length-list}
use Rattle.roots.specs.Root.{root_of}
use Rattle.onsets.specs.Onsets.{rise_weight, onset_weight, weight_at}
use Rattle.onsets.proofs.Emptied.{written_back}

-- the weight of frame j from the root of the energy before it
pub carried : (energies : List Float) (j : ℕ) {low high weight : Float} → (0 < j → low ≡ root_of (get_or energies (j - 1) nan)) → high ≡ root_of (get_or energies j nan) → weight ≡ cond (eqb j 0) one (rise_weight low high) → weight ≡ weight_at energies j
unfolding weight_at onset_weight
carried energies zero l h e = e
carried energies (suc k) {low} {high} l h e =
    e
    ∙ ap (λ (x : Float). cond (eqb (suc k) 0) one (rise_weight x high)) (l (omega arith))
    ∙ ap (λ (x : Float). cond (eqb (suc k) 0) one (rise_weight (root_of (get_or energies (suc k - 1) nan)) x)) h

pub read_at : (f : ℕ → Float) (ws : List Float) (j : ℕ) (d : Float) → ws ≡ list f (length ws) → j < length ws → get_or ws j d ≡ f j
read_at f ws j d e h = ap (λ (l : List Float). get_or l j d) e ∙ get_or-list f (length ws) j d h

-- the first n of a slice in whose first places f was written
module _ (f : ℕ → Float) (n : ℕ) (m written : List Float) (e : written ≡ front (list f n) m) where
  pub kept-long : length (take n written) ≡ n
  kept-long = ap (λ (l : List Float). length (take n l)) e ∙ ap length (written_back f n m) ∙ length-list f n

  pub kept_back : take n written ≡ list f (length (take n written))
  kept_back = ap (take n) e ∙ written_back f n m ∙ ap (list f) (sym kept-long)
