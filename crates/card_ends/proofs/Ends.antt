-- A card with an end has a key, so its segments tile the track, and each end is a time up to the duration.
use Rattle.std.specs.Prelude.{Option, Some, None, unwrap_or}
use mathlib.Core.Path.{◌≡◌, refl, ap, subst, ◌∙◌}
use Prim.Native.Nat.{ℕ, ◌+◌, ◌≤◌, ◌<◌}
use native.Mathlib.Omega.{arith}
use lib.Dec.{T, lit<}
use lib.ListN.{length, get_or, length-take}
use lib.Seq.{get_or-take}
use lib.Ieee.{Float, nan, binary64, le}
use Rattle.std.specs.Prelude.{None, Some, Ok, Err}
use Rattle.laws.specs.Table.{any_of}
use Rattle.laws.specs.Convert.{parts}
use Rattle.laws.proofs.Order.{le_trans}
use Rattle.laws.proofs.Front.{length-list, get_or-list}
use Rattle.calls.specs.declared.Settings.{Settings}
use Rattle.calls.specs.Call.{Call, Typed, seconds_at, longest_track}
use Rattle.checks.specs.Checks.{Checked}
use Rattle.checks.proofs.Passed.{passed}
use Rattle.timeline.specs.Segments.{segment_at, segment_in}
use Rattle.timeline.specs.Tiling.{Time, Tiles}
use Rattle.timeline.proofs.Tilings.{tiles-within}
use Rattle.windows.specs.Span.{span_of}
use Rattle.windows.proofs.Spans.{duration-under}
use Rattle.answers.specs.Answer.{keyless}
use Rattle.rooms.specs.Lent.{Lent}
use Rattle.rooms.specs.Room.{hasty, too_small}
use Rattle.loud_frames.specs.Loud.{AnalyseOutcome}
use Rattle.analysis.specs.Analyse.{after_checks, table_of, analysed}
use Rattle.analysis.specs.Demand.{duration_of, segments_left}
use Rattle.analysis.proofs.Demand.{analysis-keeps}
use Rattle.packed.specs.Packing.{milliseconds_of}
use Rattle.card.specs.Layout.{last_end}
use Rattle.card.specs.Rules.{card_segment}
use Rattle.card.proofs.Unbroken.{has_key}
use Rattle.card.proofs.Chosen.{chosen-needed}
use Rattle.card_judge.specs.Analysed.{Analysis, packed_end, packed_at, meaning_of}
use Rattle.card_judge.proofs.Analyses.{written_in}
use Rattle.card_call.specs.Cards.{card_of}
use Rattle.card_reader.specs.Reading.{says, read_of}
use Rattle.card_inverse.proofs.Calls.{analysed-is-read}
use Rattle.card_ends.specs.Times.{Lasting}
use Rattle.card_ends.specs.Ends.{card_of_outcome, AllInside, EndsInside, ReadInside, EndsHeld}
use Rattle.card_ends.proofs.Times.{times-inside}
use Rattle.card_ends.proofs.Held.{times-held}

-- ---- a key is reported of a track as the checks leave it
lasting : (c : Call) (lent : Lent) → (analysed c lent).answer.key < 24 → Lasting longest_track c.settings (length c.samples)
unfolding keyless
lasting c lent = go (table_of c lent) refl
  where
    go : (checks : Checked) → table_of c lent ≡ checks → (after_checks c lent checks).answer.key < 24 → Lasting longest_track c.settings (length c.samples)
    go (Err refusal) e h = absurd (omega (arith, h))
    go (Ok None) e h = absurd (omega (arith, h))
    go (Ok (Some positions)) e h =
        let p = passed c (hasty c.settings) (any_of (too_small c.settings (length c.samples) lent)) positions e in
        record { rated = p.worthwhile.rated; slow = p.slow; short = p.short }

-- ---- a number that is not the one above the limit was packed
packed-number : (x : Float) → packed_end x ≤ last_end → milliseconds_of x last_end ≡ Some (packed_end x)
packed-number x = go (milliseconds_of x last_end) refl
  where
    go : (p : Option ℕ) → milliseconds_of x last_end ≡ p → unwrap_or p (last_end + 1) ≤ last_end → p ≡ Some (unwrap_or p (last_end + 1))
    go (Some n) e h = refl
    go None e h = absurd (omega (arith, h))

module _ (c : Call) (lent : Lent) (typed : Typed c.settings) where
  abbrev o : AnalyseOutcome
  o = analysed c lent

  abbrev end_at : ℕ → Float
  end_at i = get_or o.lent.segments.ends i nan

  -- the ends of an analysis that reports a key are times up to the duration
  module _ (keyed : o.answer.key < 24) where
    tiles : Tiles (duration_of c) (segments_left o)
    tiles = (analysis-keeps c lent typed keyed).tiles

    counted : (i : ℕ) → i < o.answer.segments → i < length (segments_left o)
    counted i h = rw (length-list (segment_in o.lent.segments) o.answer.segments) h

    end_is : (i : ℕ) → i < o.answer.segments → (segment_at (segments_left o) i).end ≡ end_at i
    unfolding segment_in
    end_is i h = ap (λ s. s.end) (get_or-list (segment_in o.lent.segments) o.answer.segments i _ h)

    time : (i : ℕ) → i < o.answer.segments → Time (end_at i)
    time i h = subst Time (end_is i h) (tiles.times i (counted i h))

    within : (i : ℕ) → i < o.answer.segments → T (le (end_at i) (seconds_at c.settings (length c.samples)))
    unfolding span_of
    within i h = subst (λ (x : Float). T (le x (duration_of c))) (end_is i h) (tiles-within (duration_of c) (segments_left o) tiles i (counted i h))

  -- segment i of the card is the one in row i
  module _ (i : ℕ) (on : i < length (meaning_of (card_of_outcome o)).segments) where
    abbrev a : Analysis
    a = card_of_outcome o

    inside : i < length a.ends
    inside = rw (length-list (packed_at a.ends a.keys a.confidences) (length a.ends)) at on

    place : i < o.answer.segments
    place = omega (arith, inside, length-take o.answer.segments o.lent.segments.ends)

    end-packed : (card_segment (meaning_of a).segments i).end ≡ packed_end (end_at i)
    end-packed =
        ap (λ s. s.end) (get_or-list (packed_at a.ends a.keys a.confidences) (length a.ends) i _ inside)
        ∙ ap packed_end (get_or-take o.answer.segments o.lent.segments.ends i nan place)

-- a track as the checks leave it is no longer than the longest
no_longer : (s : Settings) (samples : ℕ) → Lasting longest_track s samples → T (le (seconds_at s samples) (parts binary64 0 longest_track))
unfolding span_of
no_longer s samples t = duration-under s samples t.rated t.slow t.short

pub ends_held : EndsHeld
ends_held c lent typed keyed i on =
    let at = place c lent typed i on in
    let x = end_at c lent typed i in
    let early : T (le x (parts binary64 0 longest_track)) =
    le_trans x (seconds_at c.settings (length c.samples)) (parts binary64 0 longest_track) (within c lent typed keyed i at) (no_longer c.settings (length c.samples) (lasting c lent keyed)) in
    rw (end-packed c lent typed i on) (times-held longest_track (lit< tt) x (time c lent typed keyed i at) early last_end (omega arith))

pub ends-inside : EndsInside
ends-inside c lent typed w i on =
    let a = card_of_outcome (analysed c lent) in
    let m = meaning_of a in
    let (l, kept) = written_in a w in
    let keyed = has_key l m (chosen-needed m l kept).good (omega (arith, on)) in
    let at = place c lent typed i on in
    let x = end_at c lent typed i in
    let low : packed_end x ≤ last_end = rw (end-packed c lent typed i on) at (ends_held c lent typed keyed i on) in
    rw (end-packed c lent typed i on)
    (times-inside longest_track (lit< tt) c.settings (length c.samples) (lasting c lent keyed) x (time c lent typed keyed i at) (within c lent typed keyed i at) last_end (packed_end x)
    (packed-number x low))

pub read-inside : ReadInside
read-inside c lent typed w rows room m read =
    let a = card_of_outcome (analysed c lent) in
    let wanted : read_of (card_of a) rows ≡ says (meaning_of a) = analysed-is-read a w rows room in
    let same : meaning_of a ≡ m = cc (read, wanted) in
    subst (AllInside c) same (ends-inside c lent typed w)
