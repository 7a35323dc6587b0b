-- The tuning over a list's first frames reads nothing behind them.
use Rattle.std.proofs.Common.{◌≡◌, ℕ, ◌≤◌, List, [], length, take, ap, arith}
use Rattle.std.proofs.lemmas.List.{get_or-take, length-take-le}
use lib.Ieee.{Float}
use Rattle.laws.proofs.Turns.{turns-part}
use Rattle.chroma.specs.Tuning.{frame_added, frames_added, mean_offset, no_peaks, tuning_of}
use Rattle.chroma.specs.declared.tuning.Peaks.{Peaks}

pub tuning-front : (frames : List (List Float)) (n : ℕ) → n ≤ length frames → tuning_of (take n frames) (length (take n frames)) ≡ tuning_of frames n
unfolding tuning_of
tuning-front frames n h =
    rw (length-take-le n frames h)
    (ap mean_offset (turns-part (λ (p : Peaks). p) (frames_added (take n frames)) (frames_added frames) n 0 (λ j s l. ap (λ (values : List Float). frame_added values s) (get_or-take n frames j [] (omega (arith, l)))) no_peaks))
