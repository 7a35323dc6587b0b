-- What the probes of the medians answer and leave behind. Definitions only.
use Rattle.std.specs.Prelude.{ℕ, Bool, cond, ◌||◌, List, eqb, ltb, length, take, replicate, Float}
use Rattle.laws.specs.Front.{front}
use Rattle.laws.specs.Values.{plus_zero}
use Rattle.medians.specs.Median.{median_of}
use Rattle.onsets.specs.Weighted.{weighted_medians}

-- no values, or not as many as asked for
abbrev pub unfit : ℕ → ℕ → Bool
unfit count room = eqb count 0 || ltb room count

-- the work numbers at the end: those used are +0
abbrev pub work_left : ℕ → List Float → List Float
work_left count work = cond (unfit count (length work)) work (front (replicate count plus_zero) work)

-- the median of the first numbers, and +0 where there is none
abbrev pub median_of_work : ℕ → List Float → Float
median_of_work count work = cond (unfit count (length work)) plus_zero (median_of (take count work))

-- no frames, or a slice that does not have as many
abbrev pub unfit_any : ℕ → ℕ → ℕ → ℕ → Bool
unfit_any count frames energies work = eqb count 0 || ltb frames count || ltb energies count || ltb work count

-- the work numbers after the twelve medians: those used are +0
abbrev pub work_weighed : ℕ → List (List Float) → List Float → List Float → List Float
work_weighed count frames energies work = cond (unfit_any count (length frames) (length energies) (length work)) work (front (replicate count plus_zero) work)

-- the twelve medians, and zeros where there are none
abbrev pub medians_of_work : ℕ → List (List Float) → List Float → List Float → List Float
medians_of_work count frames energies work = cond (unfit_any count (length frames) (length energies) (length work)) (replicate 12 plus_zero) (weighted_medians frames energies count)
