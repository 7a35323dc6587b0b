-- The shared engine is the plain correlation: the same values go into the same sums, four roots side by side.
use mathlib.Core.Path.{◌≡◌, refl, ap, ◌∙◌}
use Prim.Native.Nat.{ℕ, ◌+◌, ◌-◌, ◌%◌, ◌<◌, ◌≤◌}
use native.Mathlib.Omega.{arith}
use mathlib.Core.List.{List}
use lib.ListN.{get_or}
use lib.Ieee.{Float, nan, binary32, add, mul}
use Rattle.laws.specs.Turns.{turns}
use Rattle.laws.specs.Front.{list}
use Rattle.laws.specs.Values.{plus_zero}
use Rattle.laws.proofs.Turns.{turns-part}
use Rattle.laws.proofs.Front.{get_or-list, list_same}
use Rattle.correlations.specs.declared.lanes.Four.{Four}
use Rattle.correlations.specs.Correlation.{mean_of, deviation, rotated, summed, sums_of, quotient_of, correlation_of, held_up_at}
use Rattle.correlations.specs.inside.Deviations.{deviations_of, deviation_energy_turn, deviation_energy, backward, wheel_of}
use Rattle.correlations.specs.inside.Divisors.{energy_at, divisor_of}
use Rattle.correlations.specs.inside.Lanes.{four, alike, product_added, added_four, lanes_turn, lanes_of, twelve, products_of, turned_of}

-- a deviation
away-at : (values : List Float) (mean : Float) (i : ℕ) → i < 12 → get_or (deviations_of values mean) i nan ≡ deviation values mean i
unfolding deviations_of
away-at values mean i h = get_or-list (deviation values mean) 12 i nan h

-- a rotated deviation
wheel-at : (values : List Float) (mean : Float) (root i j : ℕ) → root < 12 → i < 12 → j + i ≡ root + 11 → get_or (wheel_of values mean) j nan ≡ deviation values mean (rotated root i)
unfolding wheel_of
wheel-at values mean root i j r h e =
    let turned : 23 - j ≡ i + 12 - root = omega arith in
    get_or-list (λ (k : ℕ). get_or (deviations_of values mean) (backward k) nan) 23 j nan (omega arith)
    ∙ away-at values mean (backward j) (omega arith)
    ∙ ap (λ (k : ℕ). deviation values mean (k % 12)) turned

-- the chroma's squares
energy-is : (chroma : List Float) (mean : Float) → deviation_energy (deviations_of chroma mean) ≡ summed (deviation chroma mean) (deviation chroma mean)
unfolding deviation_energy
energy-is chroma mean =
    turns-part (λ (s : Float). s) (deviation_energy_turn (deviations_of chroma mean)) (λ (i : ℕ) (s : Float). product_added s (deviation chroma mean i) (deviation chroma mean i)) 12 0
    (λ (i : ℕ) (s : Float) (h : i < 0 + 12). ap (λ (x : Float). add binary32 s (mul binary32 x x)) (away-at chroma mean i (omega arith))) plus_zero

module _ (chroma profile : List Float) (mean profile_mean : Float) where
  abbrev away : List Float
  away = deviations_of chroma mean

  abbrev wheel : List Float
  wheel = wheel_of profile profile_mean

  -- one product more, of a root
  abbrev product_turn : ℕ → ℕ → Float → Float
  product_turn root i sum = product_added sum (deviation chroma mean i) (deviation profile profile_mean (rotated root i))

  -- the products of a root
  abbrev products_at : ℕ → Float
  products_at root = turns (product_turn root) 12 0 plus_zero

  -- one lane's sum is that of its root; `pick` picks the lane, and `from` is where it reads the wheel
  lane : (pick : Four → Float) (base root : ℕ) (from : ℕ → ℕ) → root < 12 → ((i : ℕ) → i < 12 → from i + i ≡ root + 11)
      → ((i : ℕ) (s : Four) → pick (lanes_turn away wheel base i s) ≡ product_added (pick s) (get_or away i nan) (get_or wheel (from i) nan))
      → pick (lanes_of away wheel base) ≡ turns (product_turn root) 12 0 (pick (alike plus_zero))
  unfolding lanes_of
  lane pick base root from r f turn =
      turns-part pick (lanes_turn away wheel base) (product_turn root) 12 0
      (λ (i : ℕ) (s : Four) (h : i < 0 + 12). turn i s ∙ rw (away-at chroma mean i (omega arith), wheel-at profile profile_mean root i (from i) r (omega arith) (f i (omega arith)))) (alike plus_zero)

  -- the products of four roots
  lanes-are : (root : ℕ) → root ≤ 8 → lanes_of away wheel root ≡ four (products_at root) (products_at (root + 1)) (products_at (root + 2)) (products_at (root + 3))
  unfolding lanes_turn added_four
  lanes-are root h =
      let first = lane (λ (s : Four). s.first) root root (λ (i : ℕ). root + 11 - i) (omega arith) (λ (i : ℕ) (b : i < 12). omega arith) (λ (i : ℕ) (s : Four). refl) in
      let second = lane (λ (s : Four). s.second) root (root + 1) (λ (i : ℕ). root + 11 - i + 1) (omega arith) (λ (i : ℕ) (b : i < 12). omega arith) (λ (i : ℕ) (s : Four). refl) in
      let third = lane (λ (s : Four). s.third) root (root + 2) (λ (i : ℕ). root + 11 - i + 2) (omega arith) (λ (i : ℕ) (b : i < 12). omega arith) (λ (i : ℕ) (s : Four). refl) in
      let fourth = lane (λ (s : Four). s.fourth) root (root + 3) (λ (i : ℕ). root + 11 - i + 3) (omega arith) (λ (i : ℕ) (b : i < 12). omega arith) (λ (i : ℕ) (s : Four). refl) in
      λ k. four (first k) (second k) (third k) (fourth k)

  -- the products of all roots
  products-are : products_of away wheel ≡ list products_at 12
  unfolding products_of list
  products-are = λ k. twelve (lanes-are 0 (omega arith) k) (lanes-are 4 (omega arith) k) (lanes-are 8 (omega arith) k)

-- the correlations at all roots, where each divisor is that of its root
pub turned-is : (chroma profile divisors : List Float)
    → ((root : ℕ) → root < 12 → get_or divisors root nan ≡ (divisor_of (deviation_energy (deviations_of chroma (mean_of chroma))) (energy_at profile (mean_of profile) root)).value)
    → turned_of (deviations_of chroma (mean_of chroma)) (wheel_of profile (mean_of profile)) divisors ≡ list (correlation_of chroma profile) 12
unfolding turned_of correlation_of sums_of quotient_of divisor_of energy_at
turned-is chroma profile divisors d =
    let sums = products-are chroma profile (mean_of chroma) (mean_of profile) in
    list_same _ _ 12
    (λ (root : ℕ) (h : root < 12).
    rw (ap (λ (l : List Float). get_or l root nan) sums ∙ get_or-list (products_at chroma profile (mean_of chroma) (mean_of profile)) 12 root nan h, d root h, energy-is chroma (mean_of chroma)))

-- whether a correlation was held up, where the energies are those of its chroma and profile
pub held-up-is : (chroma profile : List Float) (root : ℕ) → held_up_at chroma profile root ≡ (divisor_of (deviation_energy (deviations_of chroma (mean_of chroma))) (energy_at profile (mean_of profile) root)).held_up
unfolding held_up_at sums_of divisor_of energy_at
held-up-is chroma profile root = rw (energy-is chroma (mean_of chroma))
