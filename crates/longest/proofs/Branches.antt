-- One segment or several, over the segments that lent columns tell.
use mathlib.Core.Path.{◌≡◌, sym, ap, ◌∙◌}
use mathlib.Core.Bool.{Bool, cond}
use Prim.Native.Nat.{ℕ, ◌<◌, ◌≤◌}
use lib.Dec.{ltb}
use borrow.Author.Tests.{lt-ltb, le-ltb}
use Rattle.keys.specs.declared.Key.{Key}
use Rattle.timeline.specs.inside.Segments.{Stretches, stretches_in}
use Rattle.timeline.specs.declared.segment.Segment.{Segment}
use Rattle.longest.specs.Longest.{longest_of, reported_of}
use Rattle.longest.proofs.Rows.{row_count}

module _ (rows : Stretches) (count : ℕ) where
  pub of-several : (classified : Key) {s : Segment} → s ≡ longest_of (stretches_in rows count) → 1 < count → s.key ≡ reported_of classified (stretches_in rows count)
  unfolding reported_of
  of-several classified e h = ap (λ (s : Segment). s.key) e ∙ sym (ap (λ (b : Bool). cond b (longest_of (stretches_in rows count)).key classified) (ap (ltb 1) (row_count rows count) ∙ lt-ltb 1 count h))

  pub of_one : (classified : Key) → count ≤ 1 → classified ≡ reported_of classified (stretches_in rows count)
  unfolding reported_of
  of_one classified h = sym (ap (λ (b : Bool). cond b (longest_of (stretches_in rows count)).key classified) (ap (ltb 1) (row_count rows count) ∙ le-ltb 1 count h))
