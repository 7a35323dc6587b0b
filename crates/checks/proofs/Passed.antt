-- What a call that passes the checks has.
use Prim.Native.Nat.{ℕ, ◌*◌, ◌<◌, ◌≤◌}
use mathlib.Core.Path.{◌≡◌, refl, sym, subst}
use mathlib.Core.Bool.{Bool, true, false}
use mathlib.Core.List.{[], ◌∷◌}
use native.Mathlib.Omega.{arith}
use borrow.Author.Tests.{ltb-false, eqb-false, not-false}
use lib.ListN.{length}
use lib.Dec.{T}
use lib.Ieee.{lt}
use lib.Ieee.Scale.{finite}
use Rattle.laws.specs.Values.{plus_zero}
use Rattle.laws.proofs.Table.{none_of, each_of, fell-through}
use Rattle.calls.specs.Call.{Call, longest_track, positions_of}
use Rattle.calls.specs.declared.Settings.{Settings}
use Rattle.sheets.specs.Sheet.{matches_call, well_formed}
use Rattle.std.specs.Prelude.{None, Some, Ok, Err}
use Rattle.checks.specs.Checks.{all_finite, reasons, nothing_to_do, too_large, Checked, table, checked}

-- there is something to do
pub record Worth (s : Settings) (count : ℕ) : Type 0 where
  pub hops : 0 < s.hop_size
  pub framed : 0 < s.frame_size
  pub enough : s.frame_size ≤ count
  pub rated : 0 < s.rate
  pub windowed : T (lt plus_zero s.local_window_seconds)
  pub spaced : T (lt plus_zero s.local_hop_seconds)

pub worth : {s : Settings} {count : ℕ} → nothing_to_do s count ≡ false → Worth s count
unfolding nothing_to_do
worth {s} {count} e =
    let failed = none_of (reasons s count) e in
    record {
      hops = omega (arith, eqb-false s.hop_size 0 (failed 2));
      framed = omega (arith, ltb-false s.frame_size 32 (failed 1));
      enough = ltb-false count s.frame_size (failed 3);
      rated = omega (arith, eqb-false s.rate 0 (failed 0));
      windowed = subst T (sym (not-false (lt plus_zero s.local_window_seconds) (failed 5))) tt;
      spaced = subst T (sym (not-false (lt plus_zero s.local_hop_seconds) (failed 6))) tt;
    }

-- each of the five settings is a finite number
pub record Finite (s : Settings) : Type 0 where
  pub window : T (finite s.local_window_seconds)
  pub hop : T (finite s.local_hop_seconds)
  pub coverage : T (finite s.alternate_coverage_threshold)
  pub confidence : T (finite s.segment_confidence_threshold)
  pub minimum : T (finite s.minimum_segment_seconds)

pub each-finite : {s : Settings} → all_finite s ≡ true → Finite s
unfolding all_finite
each-finite {s} e =
    let passed = each_of (finite s.local_window_seconds ∷ finite s.local_hop_seconds ∷ finite s.alternate_coverage_threshold ∷ finite s.segment_confidence_threshold ∷ finite s.minimum_segment_seconds ∷ []) e in
    record {
      window = subst T (sym (passed 0)) tt;
      hop = subst T (sym (passed 1)) tt;
      coverage = subst T (sym (passed 2)) tt;
      confidence = subst T (sym (passed 3)) tt;
      minimum = subst T (sym (passed 4)) tt;
    }

-- every row's test failed
pub record Passed (c : Call) (hasty crowded : Bool) (positions : ℕ) : Type 0 where
  pub many : positions ≡ positions_of c.settings (length c.samples)
  pub worthwhile : Worth c.settings (length c.samples)
  pub slow : c.settings.rate ≤ 192_000
  pub small : c.settings.frame_size ≤ 65536
  pub numbers : Finite c.settings
  pub short : length c.samples ≤ longest_track * c.settings.rate
  pub unhurried : hasty ≡ false
  pub made : matches_call c.settings c.sheet.head ≡ true
  pub formed : well_formed c.sheet ≡ true
  pub roomy : crowded ≡ false

abbrev goes : Checked → Bool
goes (Err r) = false
goes (Ok None) = false
goes (Ok (Some p)) = true

go-is : {m p : ℕ} → ◌≡◌ {A = Checked} (Ok (Some m)) (Ok (Some p)) → p ≡ m
go-is e = cc

pub passed : (c : Call) (hasty crowded : Bool) (positions : ℕ) → checked c hasty crowded ≡ Ok (Some positions) → Passed c hasty crowded positions
unfolding checked
passed c hasty crowded positions e =
    let all = positions_of c.settings (length c.samples) in
    let f = fell-through goes (table c hasty crowded) (Ok (Some all)) refl refl e in
    let many : positions ≡ all = go-is f.below in
    record {
      many = many;
      worthwhile = worth (f.failed 4);
      slow = ltb-false 192_000 c.settings.rate (f.failed 0);
      small = ltb-false 65536 c.settings.frame_size (none_of (too_large c.settings) (f.failed 1) 0);
      numbers = each-finite (not-false _ (f.failed 2));
      short = ltb-false (longest_track * c.settings.rate) (length c.samples) (f.failed 5);
      unhurried = f.failed 6;
      made = not-false _ (f.failed 7);
      formed = not-false _ (f.failed 8);
      roomy = f.failed 9;
    }
