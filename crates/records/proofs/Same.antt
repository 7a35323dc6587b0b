-- What the records hold is a list of the definition in front of what stood there, so the theorems on shortening carry over.
use mathlib.Core.Path.{◌≡◌, sym, ap, subst, ◌∙◌}
use mathlib.Core.List.{List, ◌++◌, append_assoc}
use Prim.Native.Nat.{ℕ, ◌-◌, ◌≤◌}
use lib.ListN.{length, take, drop, replicate}
use lib.Seq.{length-take-le, take-append_seam}
use lib.Ieee.{Float}
use Rattle.timeline.specs.Segments.{emptied, holding_segments}
use Rattle.timeline.specs.inside.Segments.{filled_rows}
use Rattle.timeline.specs.Tiling.{Tiles, NoneShort}
use Rattle.timeline.specs.Counts.{total_windows}
use Rattle.timeline.specs.declared.segment.Segment.{Segment}
use Rattle.shortening.specs.Shorten.{shortened_of, left_in}
use Rattle.shortening.specs.inside.Settled.{settled}
use Rattle.shortening.proofs.Settles.{left-long, none-left-short}
use Rattle.shortening.proofs.Tiled.{shortening-tiles}
use Rattle.shortening.proofs.Counts.{counts-stay}
use Rattle.records.specs.Records.{shortened_in}
use Rattle.records.specs.Same.{left_of, RecordsAreRows, NoRecordShort, RecordsTile, RecordsCount}

module _ (least : Float) (count : ℕ) (records : List Segment) where
  abbrev first : List Segment
  first = take count records

  -- the segments that are left are the definition's
  pub left_is : left_of (shortened_in least count records) ≡ shortened_of least first
  unfolding shortened_in left_in
  left_is =
      ap (take (length (shortened_of least first))) (append_assoc (shortened_of least first) (replicate (length first - length (shortened_of least first)) emptied) (drop (length (left_in least first)) records))
      ∙ take-append_seam (shortened_of least first) _

  -- the first records, emptied ones and all
  held-is : count ≤ length records → take count (shortened_in least count records).records ≡ left_in least first
  unfolding shortened_in
  held-is h =
      ap (λ (n : ℕ). take n (left_in least first ++ drop (length (left_in least first)) records)) (sym (left-long least first ∙ length-take-le count records h))
      ∙ take-append_seam (left_in least first) (drop (length (left_in least first)) records)

pub records-are-rows : RecordsAreRows
unfolding shortened_in
records-are-rows least count records rows h same =
    ap (λ (l : List Segment). settled least l rows) same
    ∙ ap (λ (l : List Segment). filled_rows (length (shortened_of least (take count records))) (holding_segments l rows)) (sym (held-is least count records h))

pub no-record-short : NoRecordShort
no-record-short least count records = subst (NoneShort least) (sym (left_is least count records)) (none-left-short least (take count records))

pub records-tile : RecordsTile
records-tile least duration count records t = subst (Tiles duration) (sym (left_is least count records)) (shortening-tiles least duration (take count records) t)

pub records-count : RecordsCount
records-count least count records = ap total_windows (left_is least count records) ∙ (counts-stay (take count records)).shortened least
