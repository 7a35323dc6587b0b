-- Numbers that break no card rule fit their widths.
use mathlib.Core.Path.{◌≡◌}
use mathlib.Core.Bool.{Bool, false}
use Prim.Native.Nat.{ℕ, ◌^◌, ◌<◌}
use native.Mathlib.Nat.{lt_of_le_of_lt, lt_of_lt_of_le}
use native.Mathlib.Omega.{arith}
use lib.ListN.{length}
use lib.Dec.{eqb}
use lib.Pow.{pow_mono}
use borrow.Author.Tests.{ltb-false}
use Rattle.laws.proofs.Table.{none_of}
use Rattle.card.specs.Layout.{Meaning, LayoutFits, HeaderFits, SegmentFits}
use Rattle.card.specs.Rules.{header_tests, header_broken, segment_tests, segment_broken, card_segment, start_at, card_broken}
use Rattle.card.specs.declared.layout.Layout.{Layout}
use Rattle.card.specs.declared.layout.Header.{Header}
use Rattle.card.specs.declared.layout.Segment.{Segment}
use Rattle.card.proofs.Unbroken.{header-good, segment-good}

header-fits : (l : Layout) (h : Header) (count : ℕ) → LayoutFits l → header_broken l h count ≡ false → HeaderFits l h count
unfolding header_broken
header-fits l h count fits good =
    let failed = none_of (header_tests l h count) good in
    record {
      key = omega (arith, ltb-false 24 h.key (failed 0));
      dsp = omega (arith, ltb-false 24 h.dsp (failed 1));
      alternate = omega (arith, ltb-false 24 h.alternate (failed 2));
      coverage = omega (arith, ltb-false 1000 h.coverage (failed 3));
      confidence = omega (arith, ltb-false 1000 h.confidence (failed 4));
      count = lt_of_le_of_lt (ltb-false l.most count (failed 5)) fits.most;
    }

segment-fits : (l : Layout) (alone : Bool) (previous : ℕ) (s : Segment) → LayoutFits l → segment_broken l alone previous s ≡ false → SegmentFits l s
unfolding segment_broken
segment-fits l alone previous s fits good =
    let failed = none_of (segment_tests l alone previous s) good in
    record {
      end = lt_of_le_of_lt (ltb-false l.last s.end (failed 1)) fits.last;
      key = omega (arith, ltb-false 23 s.key (failed 2));
      confidence = omega (arith, ltb-false 1000 s.confidence (failed 3));
    }

-- all numbers of a card fit
pub record CardFits (l : Layout) (m : Meaning) : Type 0 where
  pub header : HeaderFits l m.header (length m.segments)
  pub segment : (i : ℕ) → i < length m.segments → SegmentFits l (card_segment m.segments i)

pub card-fits : (l : Layout) (m : Meaning) → LayoutFits l → card_broken l m ≡ false → CardFits l m
card-fits l m fits good =
    let ss = m.segments in
    record {
      header = header-fits l m.header (length ss) fits (header-good l m good);
      segment = λ i h. segment-fits l (eqb (length ss) 1) (start_at ss i) (card_segment ss i) fits (segment-good l m good i h);
    }

-- a count that fits its width is small
pub few-segments : (l : Layout) (h : Header) (count : ℕ) → LayoutFits l → HeaderFits l h count → count < 2 ^ 32
few-segments l h count fits header = lt_of_lt_of_le header.count (pow_mono {j = 32} (omega (arith, fits.count)))
