-- The loop over a card's segments: the lines so far stand in front, and the next one starts where the last one ended.
use mathlib.Core.Path.{◌≡◌, refl, sym, ap, ◌∙◌}
use mathlib.Core.List.{List, ◌++◌}
use Prim.Native.Nat.{ℕ, ◌+◌, ◌*◌, ◌<◌, ◌≤◌}
use native.Mathlib.Nat.{mul-le-mul_right}
use native.Mathlib.Numerals.{add-one}
use native.Mathlib.Omega.{arith}
use lib.ListN.{length, length-append}
use Rattle.card.specs.Rules.{card_segment, start_at}
use Rattle.card.specs.declared.layout.Segment.{Segment}
use Rattle.listing.specs.Lines.{AtFront, line_of, lines_of}
use Rattle.listing.specs.Listing.{segment_line}
use Rattle.listing.proofs.Behind.{at-start, rest, back, as-list, same_size, room-behind, part-behind}
use Rattle.listing.proofs.Sizes.{line-short, lines_more, lines-short}

-- i lines are written
pub record Reached (ss : List Segment) (bytes₀ bytes : List ℕ) (start at i : ℕ) : Type 0 where
  pub begun : start ≡ start_at ss i
  pub put : AtFront (lines_of (segment_line ss) i) bytes₀ bytes at

pub reached-start : (ss : List Segment) (bytes : List ℕ) → Reached ss bytes bytes 0 0 0
unfolding lines_of
reached-start ss bytes = record { begun = refl; put = at-start bytes }

-- so many lines fit
pub lines_fit : (ss : List Segment) (n : ℕ) → length (lines_of (segment_line ss) n) ≤ n * 51
lines_fit ss n = lines-short (segment_line ss) n (λ i. line-short (start_at ss i) (card_segment ss i).end (card_segment ss i).key)

module _ {ss : List Segment} {bytes₀ bytes : List ℕ} {start at i : ℕ} (r : Reached ss bytes₀ bytes start at i) (count : ℕ) (room : count * 51 ≤ length bytes₀) where
  so_far : i ≤ count → length (lines_of (segment_line ss) i) ≤ length bytes₀
  so_far h = omega (arith, lines_fit ss i, mul-le-mul_right {m = i} {n = count} 51 h)

  -- so long as there are lines to write
  pub reached-long : i ≤ count → length bytes ≡ length bytes₀
  reached-long h = same_size r.put (so_far h)

  pub reached-room : i < count → (end key : ℕ) → length (line_of start end key) ≤ length (rest bytes at)
  reached-room h end key =
      let next : (i + 1) * 51 ≤ count * 51 = mul-le-mul_right 51 (omega arith) in
      room-behind r.put (line_of start end key) (rw length-append (omega (arith, lines_fit ss i, line-short start end key)))

-- one line more
pub reached-more : {ss : List Segment} {bytes₀ bytes : List ℕ} {start at i : ℕ} → Reached ss bytes₀ bytes start at i → {s : Segment} {part : List ℕ} {size : ℕ} → card_segment ss i ≡ s → AtFront (line_of start s.end s.key) (rest bytes at) part size → Reached ss bytes₀ (back bytes at part) s.end (at + size) (i + 1)
reached-more {ss} {i = i} r {s} here line = record {
  begun = rw (add-one i) (sym (ap (λ (t : Segment). t.end) here));
  put = as-list (ap (λ (l : List ℕ). lines_of (segment_line ss) i ++ l) (ap (λ (x : ℕ). line_of x s.end s.key) r.begun ∙ ap (λ (t : Segment). line_of (start_at ss i) t.end t.key) (sym here)) ∙ lines_more (segment_line ss) i) (part-behind r.put line);
}
