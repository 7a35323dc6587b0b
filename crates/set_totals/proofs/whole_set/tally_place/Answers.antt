-- What was found in the place decides.
use Rattle.std.specs.Prelude.{Ok}
use mathlib.Core.Path.{◌≡◌, sym, ap, ◌∙◌}
use mathlib.Core.Bool.{false, not}
use mathlib.Core.List.{List}
use Prim.Native.Nat.{ℕ, ◌-◌, ◌≤◌}
use native.Mathlib.Omega.{arith}
use lib.ListN.{length, take, drop, length-drop}
use lib.Seq.{take_all, length-take-le}
use Rattle.laws.proofs.Table.{told}
use Rattle.bits.specs.Bits.{bits_of_bytes}
use Rattle.card.specs.Layout.{most_segments}
use Rattle.card_form.specs.Form.{meaning_on}
use Rattle.card_reader.specs.Reading.{judged_of}
use Rattle.set_places.specs.Places.{all_zero, length_on, card_in, read_whole}
use Rattle.set_totals.specs.inside.Numbers.{card_number, read_number, more}
use Rattle.set_totals.proofs.Numbers.{more-long}
use Rattle.set_totals.proofs.OnePlace.{take_min, drop_min, free-is, free-adds, refused-is, refused-adds, read_is, read-adds}
use Rattle.set_totals.proofs.whole_set.tally_place.Goals as goal

pub returns-then-all_zero : goal.returns-then-all_zero
returns-then-all_zero c =
    let zero = told c.all_zero.ensures c.if-all_zero.true in
    (free-is c.args.place.now zero, free-adds c.args.place.now zero c.args.numbers.now c.requires.1.size)

pub slice_bounds-judge_card-end : goal.slice_bounds-judge_card-end
slice_bounds-judge_card-end c =
    let inside : c.card_end-end.result ≤ length (c.args.place.now) = omega (arith, c.card_end-end.ensures) in
    sym (length-take-le c.card_end-end.result (c.args.place.now) (inside))

pub slice_bounds-add_numbers-end : goal.slice_bounds-add_numbers-end
slice_bounds-add_numbers-end c =
    let inside : c.card_end-end.result ≤ length (c.args.place.now) = omega (arith, c.card_end-end.ensures) in
    sym (length-take-le c.card_end-end.result (c.args.place.now) (inside))

pub add_numbers-requires : goal.add_numbers-requires
add_numbers-requires c = (sym c.judge_card.ensures ∙ c.in-Ok.is, c.requires.1)

pub returns-in-Err : goal.returns-in-Err
returns-in-Err c =
    let part-is : take c.card_end-end.result (c.args.place.now) ≡ card_in (c.args.place.now) = ap (λ (n : ℕ). take n (c.args.place.now)) c.card_end-end.ensures ∙ take_min (length_on (c.args.place.now)) (c.args.place.now) in
    let not_free : all_zero (c.args.place.now) ≡ false = told c.all_zero.ensures c.if-all_zero.false in
    let judged-is : judged_of (card_in (c.args.place.now)) most_segments ≡ c.judge_card.result = sym (c.judge_card.ensures ∙ ap (λ (bytes : List ℕ). judged_of bytes most_segments) (part-is)) in
    let e = judged-is ∙ c.in-Err.is in
    (refused-is (c.args.place.now) (not_free) e, refused-adds (c.args.place.now) (not_free) e c.args.numbers.now c.requires.1.size)

pub shape_of-numbers : goal.shape_of-numbers
shape_of-numbers c =
    let part-is : take c.card_end-end.result (c.args.place.now) ≡ card_in (c.args.place.now) = ap (λ (n : ℕ). take n (c.args.place.now)) c.card_end-end.ensures ∙ take_min (length_on (c.args.place.now)) (c.args.place.now) in
    let not_free : all_zero (c.args.place.now) ≡ false = told c.all_zero.ensures c.if-all_zero.false in
    let judged-is : judged_of (card_in (c.args.place.now)) most_segments ≡ c.judge_card.result = sym (c.judge_card.ensures ∙ ap (λ (bytes : List ℕ). judged_of bytes most_segments) (part-is)) in
    let readable : judged_of (card_in (c.args.place.now)) most_segments ≡ Ok (c.in-Ok.l) = judged-is ∙ c.in-Ok.is in
    let added : c.add_numbers.new.numbers ≡ more (read_number (read_whole (card_in (c.args.place.now)))) c.args.numbers.now = c.add_numbers.ensures
    ∙ ap (λ (bytes : List ℕ). more (card_number (meaning_on (c.in-Ok.l) (bits_of_bytes bytes))) c.args.numbers.now) (part-is)
    ∙ read-adds (c.args.place.now) (not_free) (readable) c.args.numbers.now in
    ap length (added) ∙ more-long _ _ ∙ sym c.requires.1.size

pub returns-in-Ok : goal.returns-in-Ok
returns-in-Ok c =
    let part-is : take c.card_end-end.result (c.args.place.now) ≡ card_in (c.args.place.now) = ap (λ (n : ℕ). take n (c.args.place.now)) c.card_end-end.ensures ∙ take_min (length_on (c.args.place.now)) (c.args.place.now) in
    let rest-is : take (length (c.args.place.now) - c.card_end-end.result) (drop c.card_end-end.result (c.args.place.now)) ≡ drop (length_on (c.args.place.now)) (c.args.place.now) = take_all (length (c.args.place.now) - c.card_end-end.result) (drop c.card_end-end.result (c.args.place.now)) (rw (length-drop c.card_end-end.result (c.args.place.now)) (omega arith))
    ∙ ap (λ (n : ℕ). drop n (c.args.place.now)) c.card_end-end.ensures
    ∙ drop_min (length_on (c.args.place.now)) (c.args.place.now) in
    let not_free : all_zero (c.args.place.now) ≡ false = told c.all_zero.ensures c.if-all_zero.false in
    let judged-is : judged_of (card_in (c.args.place.now)) most_segments ≡ c.judge_card.result = sym (c.judge_card.ensures ∙ ap (λ (bytes : List ℕ). judged_of bytes most_segments) (part-is)) in
    let readable : judged_of (card_in (c.args.place.now)) most_segments ≡ Ok (c.in-Ok.l) = judged-is ∙ c.in-Ok.is in
    let added : c.add_numbers.new.numbers ≡ more (read_number (read_whole (card_in (c.args.place.now)))) c.args.numbers.now = c.add_numbers.ensures
    ∙ ap (λ (bytes : List ℕ). more (card_number (meaning_on (c.in-Ok.l) (bits_of_bytes bytes))) c.args.numbers.now) (part-is)
    ∙ read-adds (c.args.place.now) (not_free) (readable) c.args.numbers.now in
    (ap not (c.all_zero-in-Ok.ensures ∙ ap all_zero (rest-is)) ∙ read_is (c.args.place.now) (not_free) (readable), added)
