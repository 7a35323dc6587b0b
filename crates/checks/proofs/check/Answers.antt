-- Each return is the row that its tests lead to.
use Prim.Native.Nat.{ℕ, ◌*◌, ◌≤◌}
use mathlib.Core.Path.{◌≡◌, ap, ◌∙◌}
use mathlib.Core.Bool.{Bool, false, not}
use lib.ListN.{length, drop}
use borrow.Author.Tests.{lt-ltb, le-ltb}
use Rattle.std.specs.Prelude.{Some, Ok}
use Rattle.laws.specs.Table.{any_of}
use Rattle.laws.proofs.Table.{Reads, end, here, next, reads, told, told-not}
use Rattle.calls.specs.Call.{Call, longest_track, positions_of}
use Rattle.calls.specs.Lent.{call_in}
use Rattle.sheets.specs.Sheet.{matches_call, well_formed}
use Rattle.checks.specs.Checks.{all_finite, nothing_to_do, too_large, Checked, table, checked}
use Rattle.checks.proofs.Passed.{worth}
use Rattle.checks.proofs.check.Goals as goal

module _ (c : Call) (hasty crowded : Bool) where
  -- where none of the rows from number k on applies
  abbrev From : ℕ → Checked → Type 0
  From k answer = Reads (Ok (Some (positions_of c.settings (length c.samples)))) (drop k (table c hasty crowded)) answer

  -- a row that is reached decides
  decided : {answer : Checked} → From 0 answer → answer ≡ checked c hasty crowded
  unfolding checked
  decided r = reads r

  -- the rows of the numbers have failed
  past-numbers : {answer : Checked} {finite : Bool} → c.settings.rate ≤ 192000 → any_of (too_large c.settings) ≡ false → finite ≡ all_finite c.settings → not finite ≡ false → From 3 answer → answer ≡ checked c hasty crowded
  past-numbers rate sizes f passed r = decided (next (le-ltb _ _ rate) (next sizes (next (told-not f passed) r)))

  -- and those down to the longest track
  past-track : {answer : Checked} {finite idle : Bool} → c.settings.rate ≤ 192000 → any_of (too_large c.settings) ≡ false → finite ≡ all_finite c.settings → not finite ≡ false → c.settings.engine ≤ 1 → idle ≡ nothing_to_do c.settings (length c.samples) → idle ≡ false → length c.samples ≤ longest_track * c.settings.rate → From 6 answer → answer ≡ checked c hasty crowded
  past-track rate sizes f passed engine i busy track r =
      past-numbers rate sizes f passed (next (le-ltb _ _ engine) (next (told i busy) (next (le-ltb _ _ track) r)))

  -- and those down to the sheet
  past-sheet : {answer : Checked} {matches formed : Bool} → hasty ≡ false → matches ≡ matches_call c.settings c.sheet.head → not matches ≡ false → formed ≡ well_formed c.sheet → not formed ≡ false → From 9 answer → From 6 answer
  past-sheet slow m made f good r = next slow (next (told-not m made) (next (told-not f good) r))

pub returns-then-settings-gt192000 : goal.returns-then-settings-gt192000
returns-then-settings-gt192000 c = decided (call_in c.args.call) _ _ (here (lt-ltb _ _ c.if-settings-gt192000.true))

pub returns-then-settings : goal.returns-then-settings
returns-then-settings c = decided (call_in c.args.call) _ _ (next (le-ltb _ _ c.if-settings-gt192000.false) (here c.if-settings.true))

pub returns-then-not-all_finite : goal.returns-then-not-all_finite
returns-then-not-all_finite c =
    decided (call_in c.args.call) _ _ (next (le-ltb _ _ c.if-settings-gt192000.false) (next c.if-settings.false (here (told-not c.all_finite.ensures (ap not c.if-not-all_finite.true)))))

pub returns-then-settings-gt1 : goal.returns-then-settings-gt1
returns-then-settings-gt1 c =
    past-numbers (call_in c.args.call) _ _ c.if-settings-gt192000.false c.if-settings.false c.all_finite.ensures (ap not c.if-not-all_finite.false) (here (lt-ltb _ _ c.if-settings-gt1.true))

pub returns-then-nothing_to_do : goal.returns-then-nothing_to_do
returns-then-nothing_to_do c =
    past-numbers (call_in c.args.call) _ _ c.if-settings-gt192000.false c.if-settings.false c.all_finite.ensures (ap not c.if-not-all_finite.false) (next (le-ltb _ _ c.if-settings-gt1.false) (here (told c.nothing_to_do.ensures c.if-nothing_to_do.true)))

pub returns-then-count-settings : goal.returns-then-count-settings
returns-then-count-settings c =
    past-numbers (call_in c.args.call) _ _ c.if-settings-gt192000.false c.if-settings.false c.all_finite.ensures (ap not c.if-not-all_finite.false) (next (le-ltb _ _ c.if-settings-gt1.false) (next (told c.nothing_to_do.ensures c.if-nothing_to_do.false) (here (lt-ltb _ _ c.if-count-settings.true))))

pub returns-then-hasty : goal.returns-then-hasty
returns-then-hasty c =
    past-track (call_in c.args.call) _ _ c.if-settings-gt192000.false c.if-settings.false c.all_finite.ensures (ap not c.if-not-all_finite.false) c.if-settings-gt1.false c.nothing_to_do.ensures c.if-nothing_to_do.false c.if-count-settings.false (here c.if-hasty.true)

pub returns-then-not-matches : goal.returns-then-not-matches
returns-then-not-matches c =
    past-track (call_in c.args.call) _ _ c.if-settings-gt192000.false c.if-settings.false c.all_finite.ensures (ap not c.if-not-all_finite.false) c.if-settings-gt1.false c.nothing_to_do.ensures c.if-nothing_to_do.false c.if-count-settings.false (next c.if-hasty.false (here (told-not c.matches.ensures (ap not c.if-not-matches.true))))

pub returns-then-not-well_formed : goal.returns-then-not-well_formed
returns-then-not-well_formed c =
    past-track (call_in c.args.call) _ _ c.if-settings-gt192000.false c.if-settings.false c.all_finite.ensures (ap not c.if-not-all_finite.false) c.if-settings-gt1.false c.nothing_to_do.ensures c.if-nothing_to_do.false c.if-count-settings.false (next c.if-hasty.false (next (told-not c.matches.ensures (ap not c.if-not-matches.false)) (here (told-not c.well_formed-2.ensures (ap not c.if-not-well_formed.true)))))

pub frame_positions-positions-requires : goal.frame_positions-positions-requires
frame_positions-positions-requires c =
    let w = worth (told c.nothing_to_do.ensures c.if-nothing_to_do.false) in
    (w.hops, w.framed, w.enough)

pub returns-then-few-room : goal.returns-then-few-room
returns-then-few-room c =
    past-track (call_in c.args.call) _ _ c.if-settings-gt192000.false c.if-settings.false c.all_finite.ensures (ap not c.if-not-all_finite.false) c.if-settings-gt1.false c.nothing_to_do.ensures c.if-nothing_to_do.false c.if-count-settings.false
    (past-sheet (call_in c.args.call) _ _ c.if-hasty.false c.matches.ensures (ap not c.if-not-matches.false) c.well_formed-2.ensures (ap not c.if-not-well_formed.false) (here (rw c.frame_positions-positions.ensures at c.if-few-room.true)))

pub returns : goal.returns
returns c =
    ap (λ n. Ok (Some n)) c.frame_positions-positions.ensures
    ∙ past-track (call_in c.args.call) _ _ c.if-settings-gt192000.false c.if-settings.false c.all_finite.ensures (ap not c.if-not-all_finite.false) c.if-settings-gt1.false c.nothing_to_do.ensures c.if-nothing_to_do.false c.if-count-settings.false
    (past-sheet (call_in c.args.call) _ _ c.if-hasty.false c.matches.ensures (ap not c.if-not-matches.false) c.well_formed-2.ensures (ap not c.if-not-well_formed.false) (next (rw c.frame_positions-positions.ensures at c.if-few-room.false) end))
