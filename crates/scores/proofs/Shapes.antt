-- Each of the 17 energies is some profile's at some root, and each profile has one of them at each root: so some divisor is held up where some correlation is.
use mathlib.Core.Path.{◌≡◌, sym, ap, subst, ◌∙◌}
use mathlib.Core.Bool.{Bool, ◌&&◌}
use Prim.Native.Nat.{ℕ, ◌+◌, ◌*◌, ◌/◌, ◌%◌, ◌<◌}
use native.Mathlib.Omega.{arith}
use mathlib.Core.List.{List}
use lib.Dec.{T, eqb, ltb, eqb→eq, ltb→lt}
use lib.Ieee.{Float}
use lib.Ieee.Fits.{and_l, and_r}
use Rattle.laws.specs.Every.{every, any_below}
use Rattle.laws.specs.First.{first}
use Rattle.laws.proofs.Every.{each, any_of, any_at, any_same}
use Rattle.correlations.specs.Correlation.{mean_of, held_up_at}
use Rattle.correlations.specs.inside.Deviations.{deviations_of, deviation_energy}
use Rattle.correlations.specs.inside.Divisors.{divisor_of}
use Rattle.correlations.proofs.Turned.{held-up-is}
use Rattle.scores.specs.Profiles.{profile_at}
use Rattle.scores.specs.Shape.{shapeless_at, shapeless_of}
use Rattle.scores.specs.inside.Constants.{energy_places, place_at}
use Rattle.scores.specs.inside.Modes.{divisor_for, divisors_of}
use Rattle.scores.proofs.Constants.{constants-of-profiles}

-- the place of the energy for profile n / 24 of key number n % 24
abbrev place_of : ℕ → ℕ
place_of n = place_at (2 * (n / 24) + n % 24 / 12) (n % 24 % 12)

-- the first of the 96 with that energy
abbrev home : ℕ → ℕ
home k = first (λ (n : ℕ). eqb (place_of n) k) 96 0

homes-computed : T (every (λ (k : ℕ). ltb (home k) 96 && eqb (place_of (home k)) k) 17)
unfolding every first energy_places
homes-computed = tt

module _ (chroma : List Float) where
  abbrev held_for : ℕ → Bool
  held_for k = (divisor_for (deviation_energy (deviations_of chroma (mean_of chroma))) k).held_up

  held_at : (row root : ℕ) → row < 8 → root < 12 → held_up_at chroma (profile_at row) root ≡ held_for (place_at row root)
  held_at row root h l =
      held-up-is chroma (profile_at row) root
      ∙ ap (λ (e : Float). (divisor_of (deviation_energy (deviations_of chroma (mean_of chroma))) e).held_up) (sym (constants-of-profiles.energy row root h l))

  -- a divisor that is held up is some correlation's
  there : (k : ℕ) → k < 17 → T (held_for k) → T (shapeless_of chroma)
  unfolding shapeless_of shapeless_at
  there k h t =
      let found = each (λ (j : ℕ). ltb (home j) 96 && eqb (place_of (home j)) j) 17 homes-computed k h in
      let n = home k in
      let within : n < 96 = ltb→lt n 96 (and_l (ltb n 96) (eqb (place_of n) k) found) in
      let same : place_of n ≡ k = eqb→eq (place_of n) k (and_r (ltb n 96) (eqb (place_of n) k) found) in
      let held = subst T (sym (held_at (2 * (n / 24) + n % 24 / 12) (n % 24 % 12) (omega arith) (omega arith) ∙ ap held_for same)) t in
      any_of (shapeless_at chroma) 24 (n % 24) (omega arith)
      (any_of (λ (p : ℕ). held_up_at chroma (profile_at (2 * p + n % 24 / 12)) (n % 24 % 12)) 4 (n / 24) (omega arith) held)

  -- a correlation that is held up has one of the divisors
  back : (k : ℕ) → k < 24 → T (shapeless_at chroma k) → T (any_below held_for 17)
  unfolding shapeless_at
  back k h t =
      let found = any_at (λ (p : ℕ). held_up_at chroma (profile_at (2 * p + k / 12)) (k % 12)) 4 t in
      let p = found.0 in
      let few : p < 4 = found.1 in
      let row : 2 * p + k / 12 < 8 = omega arith in
      let root : k % 12 < 12 = omega arith in
      any_of held_for 17 (place_at (2 * p + k / 12) (k % 12)) (constants-of-profiles.place (2 * p + k / 12) (k % 12) row root)
      (subst T (held_at (2 * p + k / 12) (k % 12) row root) found.2)

  -- some of the 17 is held up where some of the 96 is
  any_held : (divisors_of (deviation_energy (deviations_of chroma (mean_of chroma)))).held_up ≡ shapeless_of chroma
  unfolding divisors_of shapeless_of
  any_held = any_same held_for (shapeless_at chroma) 17 24 there back

  pub shaped : {mean energy : Float} {away : List Float} {held : Bool} → mean ≡ mean_of chroma → away ≡ deviations_of chroma mean → energy ≡ deviation_energy away → held ≡ (divisors_of energy).held_up → held ≡ shapeless_of chroma
  shaped u a e h = rw (h, e, a, u) any_held
