-- From the tests of a sheet to its definition, on plain values, and from the definition to what the filters need.
use mathlib.Core.Path.{◌≡◌, sym, ap, ◌∙◌}
use mathlib.Core.List.{◌++◌}
use mathlib.Core.Bool.{Bool, true, false, not, ◌&&◌}
use Prim.Native.Nat.{ℕ, ◌≤◌}
use native.Mathlib.Omega.{arith}
use borrow.Author.Tests.{leb-true, eqb-true, not-true, not-false}
use lib.Dec.{eqb}
use lib.ListN.{length}
use lib.Ieee.{nan}
use Rattle.laws.specs.Every.{every_entry}
use Rattle.laws.specs.Table.{and_from}
use Rattle.laws.specs.Values.{plus_zero, one, two}
use Rattle.laws.proofs.Table.{each_of, told, failed-already}
use Rattle.calls.specs.Call.{Sheet}
use Rattle.sheets.specs.Sheet.{notes_in, from_to, minus_two, is_weight, is_length, joined_length, length_rules, entry_rules, lists_fit, well_formed, WellFormedSuffices}

module _ (s : Sheet) {fit : Bool} (e : fit ≡ lists_fit s) where
  pub not-fitting : not fit ≡ true → false ≡ well_formed s
  unfolding well_formed lists_fit
  not-fitting t = sym (ap (λ (b : Bool). and_from b (entry_rules s)) (told e (not-true fit t)) ∙ failed-already (entry_rules s))

  module _ (t : not fit ≡ false) where
    pub few-rows : length s.constant_q_lengths ≤ notes_in s.head
    unfolding lists_fit
    few-rows = leb-true (length s.constant_q_lengths) (notes_in s.head) (each_of (length_rules s) (told e (not-false fit t)) 4)

    pub by_entries : {lengths coefficients q_coefficients weights window q_windows : Bool} {joined : ℕ}
        → lengths ≡ every_entry (is_length s.head.rate) 0 s.constant_q_lengths
        → joined ≡ joined_length s.constant_q_lengths (length s.constant_q_lengths)
        → coefficients ≡ every_entry (from_to minus_two two) nan s.goertzel_coefficients
        → q_coefficients ≡ every_entry (from_to minus_two two) nan s.constant_q_coefficients
        → weights ≡ every_entry is_weight nan s.goertzel_weights
        → window ≡ every_entry (from_to plus_zero one) nan s.window
        → q_windows ≡ every_entry (from_to plus_zero one) nan s.constant_q_windows
        → (lengths && eqb (length s.constant_q_windows) joined && coefficients && q_coefficients && weights && window && q_windows) ≡ well_formed s
    unfolding well_formed lists_fit
    by_entries l j c q w v x = rw (l, j, c, q, w, v, x) (sym (ap (λ (b : Bool). and_from b (entry_rules s)) (told e (not-false fit t))))

pub well-formed-suffices : WellFormedSuffices
unfolding well_formed
well-formed-suffices s h e =
    let passed = each_of (length_rules s ++ entry_rules s) e in
    let goertzel = leb-true (length s.goertzel_coefficients) (notes_in s.head) (passed 3) in
    let constant_q = leb-true (length s.constant_q_lengths) (notes_in s.head) (passed 4) in
    record {
      windowed = eqb-true (length s.window) s.head.frame_size (passed 0);
      goertzel_alike = eqb-true (length s.goertzel_coefficients) (length s.goertzel_weights) (passed 1);
      constant_q_alike = eqb-true (length s.constant_q_lengths) (length s.constant_q_coefficients) (passed 2);
      goertzel_few = omega arith;
      constant_q_few = omega arith;
      joined = eqb-true (length s.constant_q_windows) (joined_length s.constant_q_lengths (length s.constant_q_lengths)) (passed 6);
    }
