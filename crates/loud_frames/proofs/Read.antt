-- The loud frames read from their rows: of the rows only the first are read, so what the code works out of these is what the list gives.
use mathlib.Core.Path.{◌≡◌, sym, ap, ◌∙◌}
use mathlib.Core.List.{List, [], map}
use Prim.Native.Nat.{ℕ, ◌-◌, ◌<◌}
use native.Mathlib.Omega.{arith}
use lib.ListN.{length, get_or}
use lib.Ieee.{Float, nan}
use Rattle.laws.specs.Front.{list}
use Rattle.laws.specs.Turns.{turns}
use Rattle.laws.proofs.Front.{length-list, list_same, get_or-list, map-list}
use Rattle.laws.proofs.Turns.{turns-part}
use Rattle.calls.specs.Rows.{Rows}
use Rattle.one_frame.specs.declared.frame.Row.{Row}
use Rattle.chroma.specs.Tuning.{frames_added, mean_offset, no_peaks, tuning_of}
use Rattle.chroma.specs.declared.tuning.Peaks.{Peaks}
use Rattle.medians.specs.Median.{median_of}
use Rattle.onsets.specs.Onsets.{weight_at}
use Rattle.onsets.specs.Weighted.{weighted_at, weighted_medians}
use Rattle.gathering.proofs.Alike.{Alike}
use Rattle.verdicts.specs.Verdict.{tuned_of, verdict_of}
use Rattle.loud_frames.specs.Loud.{chromas_of, heard_of}
use Rattle.loud_frames.specs.inside.Rows.{row_in, frames_in, heard_in}

module _ (r : Rows) (n : ℕ) where
  abbrev found : List Row
  found = frames_in r n

  pub long : length found ≡ n
  long = length-list (row_in r) n

  column : {A : Type 0} (f : Row → A) (i : ℕ) (d : A) → i < n → get_or (map f found) i d ≡ f (row_in r i)
  column f i d h = ap (λ (l : List _). get_or l i d) (map-list f (row_in r) n) ∙ get_or-list (λ (j : ℕ). f (row_in r j)) n i d h

  abbrev energies_of : List Float
  energies_of = map (λ (x : Row). x.energy) found

  same-weighted : (bin j : ℕ) → j < n → weighted_at r.values r.energies bin j ≡ weighted_at (chromas_of found) energies_of bin j
  unfolding weighted_at weight_at
  same-weighted bin j h =
      rw (
        column (λ (x : Row). x.values) j [] h,
        column (λ (x : Row). x.energy) j nan h,
        column (λ (x : Row). x.energy) (j - 1) nan (omega (arith, h)),
      )

  pub medians-same : weighted_medians r.values r.energies n ≡ weighted_medians (chromas_of found) energies_of (length found)
  unfolding weighted_medians
  medians-same =
      list_same (λ (bin : ℕ). median_of (list (weighted_at r.values r.energies bin) n)) (λ (bin : ℕ). median_of (list (weighted_at (chromas_of found) energies_of bin) n)) 12
      (λ bin _. ap median_of (list_same (weighted_at r.values r.energies bin) (weighted_at (chromas_of found) energies_of bin) n (same-weighted bin)))
      ∙ ap (λ (k : ℕ). list (λ (bin : ℕ). median_of (list (weighted_at (chromas_of found) energies_of bin) k)) 12) (sym long)

  tuning-same : tuning_of r.values n ≡ tuning_of (chromas_of found) (length found)
  unfolding tuning_of
  tuning-same =
      ap mean_offset
      (turns-part (λ (s : Peaks). s) (frames_added r.values) (frames_added (chromas_of found)) n 0 (λ j s h. rw (column (λ (x : Row). x.values) j [] (omega (arith, h)))) no_peaks
      ∙ ap (λ (k : ℕ). turns (frames_added (chromas_of found)) k 0 no_peaks) (sym long))

  pub verdict-same : (medians : List Float) → verdict_of medians r.values n ≡ verdict_of medians (chromas_of found) (length found)
  unfolding verdict_of tuned_of
  verdict-same medians = rw tuning-same

  pub heard-same : Alike (heard_in n r) (heard_of found)
  heard-same =
      record {
        frames = sym long;
        centres = λ i h. sym (column (λ (x : Row). x.centre) i nan h);
        values = λ i h. sym (column (λ (x : Row). x.values) i [] h);
      }
