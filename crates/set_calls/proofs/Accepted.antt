-- The table row by row: a card that is accepted, and the three ways out of a call.
use Rattle.std.specs.Prelude.{Result, Ok, Err}
use mathlib.Core.Path.{◌≡◌, refl, sym, ap, ap₂, subst, ◌∙◌}
use mathlib.Core.Bool.{Bool, true, false, not}
use mathlib.Core.List.{List}
use mathlib.Core.Logic.{inl, inr}
use Prim.Native.Nat.{ℕ, ◌<◌, ◌≤◌}
use Rattle.std.proofs.Common.{Option, None, Some, IsErrAnd, ok_or}
use native.Mathlib.Omega.{arith}
use lib.Dec.{T, ltb}
use lib.ListN.{length, drop}
use borrow.Author.Tests.{eq-eqb, ne_eqb, ltb-true, ltb-false, lt-ltb, le-ltb}
use Rattle.laws.proofs.First.{first-or-end, first-within}
use Rattle.laws.proofs.Table.{Reads, here, next, end, reads}
use Rattle.bits.specs.Bits.{bits_of_bytes}
use Rattle.card.specs.Layout.{most_segments}
use Rattle.card.specs.declared.layout.Layout.{Layout}
use Rattle.card_reader.specs.declared.judge.CardError.{CardError}
use Rattle.card_reader.specs.Reading.{refusal_number, judged_of, read_as}
use Rattle.laws.specs.Every.{same_numbers}
use Rattle.set_places.specs.Places.{places, place_size, place_at, read_whole, is_read, lowest_with, found_place, placed}
use Rattle.laws.proofs.Same.{same-is}
use Rattle.set_places.proofs.Found.{found-some, found-none}
use Rattle.set_totals.specs.Summary.{summary_of, numbers_of}
use Rattle.set_calls.specs.Sets.{CardSet, SetOutcome, untrue, refusal_of, set_change, set_outcome, unchanged, changed, set_table, set_call}
use Rattle.set_calls.specs.inside.Accepted.{set_refusal, judged_for_set, accept_table, accepted_as, with_place, place_for}
use Rattle.set_calls.specs.declared.SetError.{SetError}
use Rattle.set_calls.specs.declared.SetError.TheVariants.{UntrueSet, Unreadable, TooLong}
use Rattle.set_calls.proofs.Truth.{TrueSet, true-set, of-true}

-- ---- a card as it was judged
module _ (card : List ℕ) where
  pub refused-unread : {error : CardError} → judged_of card most_segments ≡ Err error → not (is_read (read_whole card)) ≡ true
  refused-unread e = ap (λ (j : Result Layout CardError). not (is_read (read_as (bits_of_bytes card) j))) e

  pub readable-read : {l : Layout} → judged_of card most_segments ≡ Ok l → not (is_read (read_whole card)) ≡ false
  readable-read e = ap (λ (j : Result Layout CardError). not (is_read (read_as (bits_of_bytes card) j))) e

  refused-by : {error : CardError} → judged_of card most_segments ≡ Err error → refusal_of (read_whole card) ≡ refusal_number error
  refused-by e = ap (λ (j : Result Layout CardError). refusal_of (read_as (bits_of_bytes card) j)) e

-- ---- the place that was looked for
module _ (content set : List ℕ) where
  -- place i has the content
  abbrev has_it : ℕ → Bool
  has_it i = same_numbers (place_at set i) content

  pub none-found : ◌≡◌ {A = Option ℕ} None (found_place (lowest_with content set)) → lowest_with content set ≡ places
  unfolding lowest_with
  none-found e = let far = found-none _ e in let within = first-within has_it places 0 in omega (arith, far, within)

  -- where it is, and what stands there
  pub record Found (p : ℕ) : Type 0 where
    pub here : p ≡ lowest_with content set
    pub inside : p < places
    pub has : place_at set p ≡ content

  pub found : {p : ℕ} → ◌≡◌ {A = Option ℕ} (Some p) (found_place (lowest_with content set)) → Found p
  unfolding lowest_with
  found {p} e =
      let there = found-some (lowest_with content set) e in
      record {
        here = there.0;
        inside = there.1;
        has =
            elim (first-or-end has_it places 0) [
              | inl passes ↦ same-is (place_at set p) content (subst T (sym (ap has_it there.0 ∙ passes)) tt)
              | inr all ↦ absurd (omega (arith, there.0, there.1, all))
            ];
      }

-- ---- the rows before a place is looked for
module _ (card : List ℕ) (s : CardSet) where
  told-by : {j : Result Layout SetError} → Reads (judged_for_set (judged_of card most_segments)) (accept_table card s) j → j ≡ accepted_as card s
  unfolding accepted_as
  told-by r = reads r

  pub untrue-refused : untrue s ≡ true → Err UntrueSet ≡ accepted_as card s
  untrue-refused u = told-by (here u)

  module _ (u : untrue s ≡ false) where
    pub unread-refused : {error : CardError} → judged_of card most_segments ≡ Err error → Err (Unreadable error) ≡ accepted_as card s
    unread-refused e = ap judged_for_set (sym e) ∙ told-by (next u (here (refused-unread card e)))

    module _ {l : Layout} (e : judged_of card most_segments ≡ Ok l) where
      pub long-refused : place_size < length card → Err TooLong ≡ accepted_as card s
      long-refused h = told-by (next u (next (readable-read card e) (here (lt-ltb place_size (length card) h))))

      pub accepted-is : length card ≤ place_size → Ok l ≡ accepted_as card s
      accepted-is h = ap judged_for_set (sym e) ∙ told-by (next u (next (readable-read card e) (next (le-ltb place_size (length card) h) end)))

  -- what is known of an accepted card and its set
  pub record Accepted (l : Layout) : Type 0 where
    pub set : TrueSet s
    pub readable : judged_of card most_segments ≡ Ok l
    pub fits : length card ≤ place_size

  apart : {A : Type 0} {error : SetError} {l : Layout} → ◌≡◌ {A = Result Layout SetError} (Err error) (Ok l) → A
  apart e = let z : ◌≡◌ {A = ℕ} 0 1 = cc in absurd (omega arith)

  pub accepted : {l : Layout} → accepted_as card s ≡ Ok l → Accepted l
  accepted {l} e = by_truth (untrue s) refl
    where
      by_length : untrue s ≡ false → {k : Layout} → judged_of card most_segments ≡ Ok k → (long : Bool) → ltb place_size (length card) ≡ long → Accepted l
      by_length u j true q = apart (long-refused u j (ltb-true place_size (length card) q) ∙ e)
      by_length u {k} j false q =
          let taken = accepted-is u j (ltb-false place_size (length card) q) ∙ e in
          let same : k ≡ l = cc in
          record { set = true-set s u; readable = j ∙ ap Ok same; fits = ltb-false place_size (length card) q }

      by_reading : untrue s ≡ false → (j : Result Layout CardError) → judged_of card most_segments ≡ j → Accepted l
      by_reading u (Err error) q = apart (unread-refused u q ∙ e)
      by_reading u (Ok k) q = by_length u q (ltb place_size (length card)) refl

      by_truth : (b : Bool) → untrue s ≡ b → Accepted l
      by_truth true u = apart (untrue-refused u ∙ e)
      by_truth false u = by_reading u (judged_of card most_segments) refl

  -- ---- the calls
  module _ (missing : ℕ) (from to : List ℕ) where
    abbrev place : ℕ
    place = lowest_with from s.bytes

    called : {o : SetOutcome} → Reads (changed place to s) (set_table missing place card s) o → o ≡ set_call missing from to card s
    unfolding set_call
    called r = reads r

    -- refused before a place is looked for
    pub call_refused : {error : SetError} → accepted_as card s ≡ Err error → unchanged (set_refusal error) s ≡ set_call missing from to card s
    call_refused {error} e = by_truth (untrue s) refl
      where
        same : {other : SetError} → ◌≡◌ {A = Result Layout SetError} (Err other) (Err error) → unchanged (set_refusal error) s ≡ unchanged (set_refusal other) s
        same {other} q = let z : other ≡ error = cc in ap (λ (k : SetError). unchanged (set_refusal k) s) (sym z)

        by_length : untrue s ≡ false → {k : Layout} → judged_of card most_segments ≡ Ok k → (long : Bool) → ltb place_size (length card) ≡ long → unchanged (set_refusal error) s ≡ set_call missing from to card s
        by_length u j true q = same (long-refused u j (ltb-true place_size (length card) q) ∙ e) ∙ called (next u (next (readable-read card j) (here q)))
        by_length u j false q = apart (sym (accepted-is u j (ltb-false place_size (length card) q) ∙ e))

        by_reading : untrue s ≡ false → (j : Result Layout CardError) → judged_of card most_segments ≡ j → unchanged (set_refusal error) s ≡ set_call missing from to card s
        by_reading u (Err other) q = same (unread-refused u q ∙ e) ∙ ap (λ (k : ℕ). unchanged k s) (sym (refused-by card q)) ∙ called (next u (here (refused-unread card q)))
        by_reading u (Ok k) q = by_length u q (ltb place_size (length card)) refl

        by_truth : (b : Bool) → untrue s ≡ b → unchanged (set_refusal error) s ≡ set_call missing from to card s
        by_truth true u = same (untrue-refused u ∙ e) ∙ called (here u)
        by_truth false u = by_reading u (judged_of card most_segments) refl

    module _ {l : Layout} (a : Accepted l) where
      -- the first three rows have failed
      past : {o : SetOutcome} → Reads (changed place to s) (drop 3 (set_table missing place card s)) o → o ≡ set_call missing from to card s
      past r = called (next (of-true s a.set) (next (readable-read card a.readable) (next (le-ltb place_size (length card) a.fits) r)))

      -- no place has the content
      pub call_missing : ◌≡◌ {A = Option ℕ} None (found_place place) → unchanged missing s ≡ set_call missing from to card s
      call_missing e = past (here (eq-eqb place places (none-found from s.bytes e)))

      -- one has it
      pub call_changed : {p : ℕ} → Found from s.bytes p → changed place to s ≡ set_call missing from to card s
      call_changed f = past (next (ne_eqb place places (λ (e : place ≡ places). omega (arith, e, f.here, f.inside))) end)

-- an error that a call hands on
pub handed-on : {A E : Type 0} {error : E} (r : Result A E) → IsErrAnd r (λ (e : E). e ≡ error) → r ≡ Err error
handed-on (Err e) p = ap Err p
handed-on (Ok x) p = absurd p

-- what `ok_or` makes of an option
pub none-of : {E : Type 0} {error other : E} (place : Option ℕ) {r : Result ℕ E} → r ≡ ok_or place error → r ≡ Err other → (place ≡ None) × (other ≡ error)
none-of None is e = (refl, cc)
none-of (Some p) is e = absurd (let z : ◌≡◌ {A = ℕ} 0 1 = cc (is, e) in omega arith)

pub some-of : {E : Type 0} (error : E) (place : Option ℕ) {p : ℕ} {r : Result ℕ E} → r ≡ ok_or place error → r ≡ Ok p → place ≡ Some p
some-of error None is e = absurd (let z : ◌≡◌ {A = ℕ} 0 1 = cc (is, e) in omega arith)
some-of error (Some i) {p} is e = let z : i ≡ p = cc in ap Some z

-- ---- a card with the place that was looked for
module _ (missing : SetError) (from card : List ℕ) (s : CardSet) where
  abbrev looked_for : Option ℕ
  looked_for = found_place (lowest_with from s.bytes)

  pub for-refused : {error : SetError} → accepted_as card s ≡ Err error → ◌≡◌ {A = Result (Layout × ℕ) SetError} (Err error) (place_for missing from card s)
  unfolding place_for
  for-refused a = sym (ap (with_place missing looked_for) a)

  pub for-missing : {l : Layout} → accepted_as card s ≡ Ok l → looked_for ≡ None → ◌≡◌ {A = Result (Layout × ℕ) SetError} (Err missing) (place_for missing from card s)
  unfolding place_for
  for-missing a q = sym (ap₂ (with_place missing) q a)

  pub for-found : {l : Layout} {p : ℕ} → accepted_as card s ≡ Ok l → looked_for ≡ Some p → ◌≡◌ {A = Result (Layout × ℕ) SetError} (Ok (l, p)) (place_for missing from card s)
  unfolding place_for
  for-found a q = sym (ap₂ (with_place missing) q a)

  -- what is known of both
  pub record Placed (l : Layout) (p : ℕ) : Type 0 where
    pub taken : Accepted card s l
    pub place : Found from s.bytes p

  pub placed-for : {l : Layout} {p : ℕ} → place_for missing from card s ≡ Ok (l, p) → Placed l p
  unfolding place_for
  placed-for {l} {p} e = by_both (found_place (lowest_with from s.bytes)) (accepted_as card s) refl refl e
    where
      by_both : (r : Option ℕ) (j : Result Layout SetError) → found_place (lowest_with from s.bytes) ≡ r → accepted_as card s ≡ j → with_place missing r j ≡ Ok (l, p) → Placed l p
      by_both r (Err error) q a e = absurd (let z : ◌≡◌ {A = ℕ} 0 1 = cc e in omega arith)
      by_both None (Ok k) q a e = absurd (let z : ◌≡◌ {A = ℕ} 0 1 = cc e in omega arith)
      by_both (Some i) (Ok k) q a e =
          let both : ◌≡◌ {A = Layout × ℕ} (k, i) (l, p) = cc in
          record { taken = accepted card s (a ∙ ap (λ (x : Layout × ℕ). Ok x.0) both); place = found from s.bytes (sym (q ∙ ap (λ (x : Layout × ℕ). Some x.1) both)) }

  -- refused, with nothing changed
  pub not_placed : (to : List ℕ) {error : SetError} → place_for missing from card s ≡ Err error → unchanged (set_refusal error) s ≡ set_call (set_refusal missing) from to card s
  unfolding place_for
  not_placed to {error} e = by_both (found_place (lowest_with from s.bytes)) (accepted_as card s) refl refl e
    where
      as-told : {other : SetError} → ◌≡◌ {A = Result (Layout × ℕ) SetError} (Err other) (Err error) → unchanged (set_refusal error) s ≡ unchanged (set_refusal other) s
      as-told {other} e = let z : other ≡ error = cc in ap (λ (k : SetError). unchanged (set_refusal k) s) (sym z)

      by_both : (r : Option ℕ) (j : Result Layout SetError) → found_place (lowest_with from s.bytes) ≡ r → accepted_as card s ≡ j → with_place missing r j ≡ Err error → unchanged (set_refusal error) s ≡ set_call (set_refusal missing) from to card s
      by_both r (Err other) q a e = as-told e ∙ call_refused card s (set_refusal missing) from to a
      by_both None (Ok k) q a e = as-told e ∙ call_missing card s (set_refusal missing) from to (accepted card s a) (sym q)
      by_both (Some i) (Ok k) q a e = absurd (let z : ◌≡◌ {A = ℕ} 0 1 = cc e in omega arith)

-- what was left is the set with that place changed, and its own numbers
pub left_is : (s : CardSet) (to : List ℕ) {p place : ℕ} {bytes numbers : List ℕ} → p ≡ place → bytes ≡ placed p to s.bytes → numbers ≡ numbers_of (summary_of (placed p to s.bytes)) →
    set_outcome (set_change 0 p) (record { bytes = bytes; numbers = numbers }) ≡ changed place to s
left_is s to {p} e b n =
    ap₂ (λ (xs ys : List ℕ). set_outcome (set_change 0 p) (record { bytes = xs; numbers = ys })) b n ∙ ap (λ (q : ℕ). changed q to s) e
