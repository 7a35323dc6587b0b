-- Demand 3: only a call that passes the table and comes to its segments reports a key, and those segments are laid out over the duration.
use mathlib.Core.Path.{◌≡◌, refl, sym, ap, subst}
use mathlib.Core.Bool.{Bool}
use mathlib.Core.List.{List}
use Prim.Native.Nat.{ℕ, ◌<◌}
use native.Mathlib.Omega.{arith}
use lib.Dec.{T, eqb→eq}
use lib.ListN.{length}
use lib.Ieee.{Float}
use lib.Ieee.Fits.{and_r}
use Rattle.laws.specs.Table.{any_of}
use Rattle.laws.specs.Values.{plus_zero}
use Rattle.keys.specs.Numbers.{key_number}
use Rattle.keys.proofs.Placed.{numbers-are-keys}
use Rattle.calls.specs.Call.{Call, Typed, longest_track}
use Rattle.calls.specs.declared.Settings.{Settings}
use Rattle.checks.proofs.Passed.{Passed, passed}
use Rattle.timeline.specs.Segments.{segment_at}
use Rattle.timeline.specs.declared.segment.Segment.{Segment}
use Rattle.windows.specs.Span.{span_of}
use Rattle.gathering.specs.Gather.{Heard}
use Rattle.windows.specs.declared.span.Span.{Span}
use Rattle.windows.specs.Run.{estimates_of}
use Rattle.windows.proofs.Spans.{duration-under}
use Rattle.segments.specs.Demand.{LaidOut}
use Rattle.segments.specs.inside.Fill.{segments_of}
use Rattle.segments.proofs.LaidOut.{track-laid-out}
use Rattle.longest.specs.Longest.{reported_of}
use Rattle.longest.proofs.Reported.{longest-reported}
use Rattle.std.specs.Prelude.{Option, None, Some}
use Rattle.alternates.specs.Alternate.{lasting, lasts_in, alternate, alternate_of, alternate_number, alternate_coverage}
use Rattle.alternates.specs.Named.{Reaches, Rightly, Exactly}
use Rattle.alternates.specs.declared.alternate.Alternate.{Alternate}
use Rattle.alternates.proofs.Named.{named-exactly}
use Rattle.alternates.proofs.Tiled.{tiled-total-finite}
use Rattle.answers.specs.Answer.{counts, keyless, with_alternate}
use Rattle.answers.specs.declared.answer.Counts.{Counts}
use Rattle.verdicts.specs.declared.verdict.Verdict.{Verdict}
use Rattle.rooms.specs.Lent.{Lent}
use Rattle.rooms.specs.Room.{hasty, too_small}
use Rattle.rooms.proofs.Budget.{finite-ordered, passed-timed}
use Rattle.reports.specs.Report.{named_in, report_of}
use Rattle.reports.specs.inside.Rows.{track_of}
use Rattle.loud_frames.specs.Loud.{analyse_outcome, report_left}
use Rattle.analysis.specs.Demand.{Alternating, LongestAnswered, Kept, DemandThree, AnalysisKeeps}
use Rattle.analysis.proofs.Ways.{read_left, analysed-has}

-- ---- the alternate and the reported key
-- a key that has a lasting segment is a key's number
reaching-below : {reported : ℕ} {threshold : Float} {segments : List Segment} {key : ℕ} → Reaches reported threshold segments key → key < 24
unfolding lasts_in
reaching-below {segments = segments} {key} r =
    let place = r.place in
    let own : key_number (segment_at segments place).key ≡ key = eqb→eq (key_number (segment_at segments place).key) key (and_r (lasting (segment_at segments place)) _ (subst T (sym r.lasts) tt)) in
    subst (λ (k : ℕ). k < 24) own (numbers-are-keys.below (segment_at segments place).key)

module _ {reported : ℕ} {threshold : Float} {segments : List Segment} (exactly : Exactly reported threshold segments) where
  named-only : (a : Option Alternate) → alternate_of reported threshold segments ≡ a → alternate_number a < 24 → Rightly reported threshold segments (alternate_number a) (alternate_coverage a)
  named-only None e h = absurd (omega (arith, h))
  named-only (Some a) e h = exactly.only a.key a.coverage e

  named-whenever : (k : ℕ) × (c : Float) × (alternate_of reported threshold segments ≡ Some (alternate k c)) → alternate_number (alternate_of reported threshold segments) < 24
  named-whenever (k, c, e) = subst (λ (a : Option Alternate). alternate_number a < 24) (sym e) (reaching-below (exactly.only k c e).reaches)

named-otherwise : (a : Option Alternate) → (alternate_number a < 24 → ⊥) → ((key : ℕ) (coverage : Float) → a ≡ Some (alternate key coverage) → key < 24) → (alternate_number a ≡ 24) × (alternate_coverage a ≡ plus_zero)
named-otherwise None none below = (refl, refl)
named-otherwise (Some a) none below = absurd (none (below a.key a.coverage refl))

alternating : (threshold : Float) (v : Verdict) (c : Counts) (segments : List Segment) → ((reported : ℕ) → Exactly reported threshold segments) → Alternating threshold (named_in threshold v c segments) segments
unfolding named_in with_alternate
alternating threshold v c segments exactly =
    let reported = key_number (reported_of v.key segments) in
    let named = alternate_of reported threshold segments in
    record {
      only = named-only (exactly reported) named refl;
      whenever = λ above key r. named-whenever (exactly reported) ((exactly reported).whenever above key r);
      otherwise = λ none. named-otherwise named none (λ key coverage e. reaching-below ((exactly reported).only key coverage e).reaches);
    }

longest-answered : (threshold : Float) (v : Verdict) (c : Counts) (segments : List Segment) → LongestAnswered (named_in threshold v c segments) segments
unfolding named_in with_alternate
longest-answered threshold v c segments several = let told = longest-reported v.key segments several in (told.0, told.1, ap key_number told.2)

-- ---- the ways through a call
-- an answer without a key
keyless-keeps : (c : Call) (refusal position frames : ℕ) (l : Lent) → DemandThree c (analyse_outcome (keyless refusal position frames) l)
unfolding keyless
keyless-keeps c refusal position frames l h = absurd (omega (arith, h))

module _ (c : Call) (typed : Typed c.settings) {crowded : Bool} {positions : ℕ} (p : Passed c (hasty c.settings) crowded positions) where
  abbrev s : Settings
  s = c.settings

  abbrev span : Span
  span = span_of s (length c.samples)

  exactly-named : (segments : List Segment) → LaidOut span.duration s.minimum_segment_seconds segments → (reported : ℕ) → Exactly reported s.alternate_coverage_threshold segments
  exactly-named segments laid reported =
      named-exactly reported s.alternate_coverage_threshold segments (finite-ordered s.alternate_coverage_threshold p.numbers.coverage)
      (tiled-total-finite span.duration segments longest_track laid.tiles (duration-under s (length c.samples) p.worthwhile.rated p.slow p.short) (omega (arith, laid.few)))

  laid : (v : Verdict) (h : Heard) → LaidOut span.duration s.minimum_segment_seconds (segments_of (track_of s span v) (estimates_of span h))
  unfolding track_of
  laid v h = track-laid-out span (track_of s span v) h (passed-timed c typed p) refl

  -- what is answered of them
  report-keeps : (v : Verdict) (h : Heard) (l : Lent) → DemandThree c (report_left l (report_of s (length c.samples) v h))
  unfolding report_of named_in with_alternate segments_of track_of
  report-keeps v h l = λ _.
      let found = estimates_of span h in
      let segments = segments_of (track_of s span v) found in
      let many = counts h.frames (length found) (length segments) in
      let out = laid v h in
      let threshold = s.alternate_coverage_threshold in
      subst (Kept c (named_in threshold v many segments)) (sym (read_left s (length c.samples) v h l))
      (record {
        tiles = out.tiles;
        none_short = out.none_short;
        longest = longest-answered threshold v many segments;
        alternate = alternating threshold v many segments (exactly-named segments out);
      })

pub analysis-keeps : AnalysisKeeps
analysis-keeps c l typed =
    analysed-has c (DemandThree c) (keyless-keeps c) l
    (λ positions e. report-keeps c typed (passed c (hasty c.settings) (any_of (too_small c.settings (length c.samples) l)) positions e))
