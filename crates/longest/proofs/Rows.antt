-- The segments as far as lent columns tell them: how many they are, and which of them was read.
use mathlib.Core.Path.{◌≡◌, sym, ap, ◌∙◌}
use Prim.Native.Nat.{ℕ, ◌-◌, ◌<◌}
use lib.ListN.{length}
use Rattle.laws.specs.Turns.{turns}
use Rattle.laws.proofs.Turns.{turns-start}
use Rattle.laws.proofs.Front.{length-list, get_or-list}
use Rattle.timeline.specs.Segments.{emptied, segment_at}
use Rattle.timeline.specs.inside.Segments.{Stretches, stretch_in, stretches_in}
use Rattle.timeline.specs.declared.segment.Segment.{Segment}

module _ (rows : Stretches) (count : ℕ) where
  pub row_count : length (stretches_in rows count) ≡ count
  row_count = length-list (stretch_in rows) count

  pub rows_start : {S : Type 0} (step : ℕ → S → S) (s : S) → turns step (count - 0) 0 s ≡ turns step (length (stretches_in rows count)) 0 s
  rows_start step s = turns-start step count s ∙ ap (λ (k : ℕ). turns step k 0 s) (sym row_count)

  pub read_at : (i : ℕ) → i < count → {s : Segment} → s ≡ stretch_in rows i → s ≡ segment_at (stretches_in rows count) i
  read_at i h read = read ∙ sym (get_or-list (stretch_in rows) count i emptied h)
