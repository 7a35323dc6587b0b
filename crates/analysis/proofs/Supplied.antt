-- A call that passes the table has all that an analysis needs.
use mathlib.Core.Path.{◌≡◌}
use Prim.Native.Nat.{ℕ, ◌<◌}
use native.Mathlib.Omega.{arith}
use borrow.Author.Tests.{ltb-false}
use lib.ListN.{length}
use Rattle.std.specs.Prelude.{Some, Ok}
use Rattle.laws.specs.Table.{any_of}
use Rattle.laws.proofs.Table.{none_of}
use Rattle.laws.proofs.Zero.{above-clear}
use Rattle.calls.specs.Call.{Call, positions_of}
use Rattle.calls.specs.Rows.{room_in}
use Rattle.checks.proofs.Passed.{passed}
use Rattle.frames.proofs.Passes.{ready}
use Rattle.timeline.specs.Estimates.{estimate_room}
use Rattle.timeline.specs.Segments.{segment_room}
use Rattle.timeline.proofs.Rooms.{room_within, estimates-within}
use Rattle.windows.specs.Span.{span_of, windows_of, rows_asked}
use Rattle.windows.proofs.Spans.{windows-asked, some-asked}
use Rattle.rooms.specs.Lent.{Lent}
use Rattle.rooms.specs.Room.{hasty, too_small}
use Rattle.positions.specs.inside.Supplied.{Supplied}
use Rattle.analysis.specs.Analyse.{table_of}

pub supplied : (c : Call) (l : Lent) (positions : ℕ) → c.sheet.head.maximum_midi_note < 256 → table_of c l ≡ Ok (Some positions) → Supplied c positions l
unfolding span_of
supplied c l positions note e =
    let s = c.settings in
    let count = length c.samples in
    let span = span_of s count in
    let tests = too_small s count l in
    let p = passed c (hasty s) (any_of tests) positions e in
    let rows = ltb-false (room_in l.frames) (positions_of s count) (none_of tests p.roomy 0) in
    let work = ltb-false (length l.work) (positions_of s count) (none_of tests p.roomy 1) in
    let estimates = ltb-false (estimate_room l.estimates) (rows_asked span) (none_of tests p.roomy 2) in
    let segments = ltb-false (segment_room l.segments) (rows_asked span) (none_of tests p.roomy 3) in
    let few = windows-asked span in
    let some = some-asked span in
    let there = estimates-within l.estimates (windows_of span) (omega (arith, few, estimates)) in
    record {
      ready = ready c (hasty s) (any_of tests) l.frames positions note (omega (arith, rows, p.many)) e;
      work = omega (arith, work, p.many);
      prepared = record {
        ready = record {
          onward = above-clear s.local_hop_seconds p.worthwhile.spaced;
          timed = omega arith;
          valued = omega arith;
          centres = there.0;
          keys = there.1;
          confidences = there.2;
          shapeless = there.3;
        };
        room = room_within l.segments (windows_of span) (omega (arith, few, segments));
        one = room_within l.segments 1 (omega (arith, some, segments));
      };
    }
