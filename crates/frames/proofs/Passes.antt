-- A call that passes the checks has all that the run needs.
use Prim.Native.Nat.{ℕ, ◌<◌, ◌≤◌}
use mathlib.Core.Path.{◌≡◌}
use mathlib.Core.Bool.{Bool, true}
use mathlib.Core.List.{[], ◌∷◌}
use native.Mathlib.Omega.{arith}
use lib.Dec.{eqb}
use borrow.Author.Tests.{eqb-true}
use Rattle.std.specs.Prelude.{Some, Ok}
use Rattle.laws.proofs.Table.{each_of}
use Rattle.calls.specs.Call.{Call}
use Rattle.calls.specs.Rows.{Rows, room_in}
use Rattle.calls.specs.declared.Settings.{Settings}
use Rattle.calls.specs.declared.SheetHead.{SheetHead}
use Rattle.sheets.specs.Sheet.{matches_call}
use Rattle.sheets.proofs.Formed.{well-formed-suffices}
use Rattle.checks.specs.Checks.{checked}
use Rattle.checks.proofs.Passed.{passed}
use Rattle.frames.specs.inside.Rows.{Ready}

-- a sheet that was made for the call is for its frame size
same_size : (s : Settings) (h : SheetHead) → matches_call s h ≡ true → h.frame_size ≡ s.frame_size
unfolding matches_call
same_size s h m =
    eqb-true h.frame_size s.frame_size
    (each_of
    (eqb h.rate s.rate
    ∷ eqb h.minimum_midi_note s.minimum_midi_note
    ∷ eqb h.maximum_midi_note s.maximum_midi_note
    ∷ eqb h.frame_size s.frame_size
    ∷ [])
    m 3)

-- where the lent rows have the room
pub ready : (c : Call) (hasty crowded : Bool) (before : Rows) (positions : ℕ) → c.sheet.head.maximum_midi_note < 256 → positions ≤ room_in before → checked c hasty crowded ≡ Ok (Some positions) → Ready c before positions
ready c hasty crowded before positions note there e =
    let p = passed c hasty crowded positions e in
    record {
      many = p.many;
      hops = p.worthwhile.hops;
      framed = p.worthwhile.framed;
      small = p.small;
      enough = p.worthwhile.enough;
      sized = same_size c.settings c.sheet.head p.made;
      formed = well-formed-suffices c.sheet note p.formed;
      centres = omega (arith, there);
      values = omega (arith, there);
      energies = omega (arith, there);
    }
