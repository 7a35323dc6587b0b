-- Laws of the search for the first short segment, which the proof of `first_short` cites, a law for each way out of a turn; and what it finds among segments.
use mathlib.Core.Path.{◌≡◌, sym, ap, ◌∙◌}
use Prim.Native.Nat.{ℕ, ◌+◌, ◌-◌, ◌<◌, ◌≤◌}
use mathlib.Core.Bool.{Bool, true, false}
use mathlib.Core.List.{List}
use lib.Ieee.{Float}
use native.Mathlib.Omega.{arith}
use Rattle.laws.specs.First.{first}
use Rattle.laws.proofs.Front.{length-list}
use Rattle.laws.proofs.First.{first_start, first-again, first_out, first-end, first-same}
use Rattle.timeline.specs.Segments.{short, segment_at, SegmentRows, segment_in, segments_in}
use Rattle.timeline.specs.inside.Segments.{short_in}
use Rattle.timeline.proofs.Segments.{segment-there, short-there}
use Rattle.shortening.specs.Shorten.{first_short}
use Rattle.shortening.specs.inside.Lengths.{first_short_in}

-- The search for a short segment has come to i: none before it is short.
pub record Searched (least : Float) (starts ends : List Float) (count i : ℕ) : Type 0 where
  pub upto : i ≤ count
  pub ahead : first (short_in least starts ends) (count - i) i ≡ first_short_in least starts ends count

pub searched-start : (least : Float) (starts ends : List Float) (count : ℕ) → Searched least starts ends count 0
unfolding first_short_in
searched-start least starts ends count = record { upto = omega arith; ahead = first_start (short_in least starts ends) count }

module _ {least : Float} {starts ends : List Float} {count i : ℕ} (searched : Searched least starts ends count i) where
  pub searched-again : {flag : Bool} → i < count → flag ≡ short_in least starts ends i → flag ≡ false → Searched least starts ends count (i + 1)
  searched-again h f t = record { upto = omega arith; ahead = first-again _ count i searched.ahead h (sym f ∙ t) }

  pub searched-out : {flag : Bool} → i < count → flag ≡ short_in least starts ends i → flag ≡ true → i ≡ first_short_in least starts ends count
  searched-out h f t = first_out _ count i searched.ahead h (sym f ∙ t)

  pub searched-end : count ≤ i → count ≡ first_short_in least starts ends count
  searched-end h =
      let all : count ≡ i = omega (arith, searched.upto) in
      all ∙ first-end _ count i searched.ahead h

-- among the segments in whole rows it is the same one
pub first-there : (least : Float) (rows : SegmentRows) (count : ℕ) → first_short_in least rows.starts rows.ends count ≡ first_short least (segments_in rows count)
unfolding first_short_in first_short
first-there least rows count =
    let test : ℕ → Bool = λ k. short least (segment_at (segments_in rows count) k) in
    first-same (short_in least rows.starts rows.ends) test count 0 (λ k h. short-there rows least (0 + k) ∙ ap (short least) (sym (segment-there rows count (0 + k) (omega (arith, h)))))
    ∙ ap (λ (n : ℕ). first test n 0) (sym (length-list (segment_in rows) count))
