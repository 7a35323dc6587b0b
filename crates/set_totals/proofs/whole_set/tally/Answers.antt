-- A place a turn, its numbers added to those of the places before.
use mathlib.Core.Path.{◌≡◌, refl, sym, ap, ap₂, subst, ◌∙◌}
use mathlib.Core.Bool.{Bool, ◌||◌}
use mathlib.Core.List.{List}
use Prim.Native.Nat.{ℕ}
use native.Mathlib.Omega.{arith}
use lib.ListN.{length, length-replicate}
use Rattle.laws.specs.Every.{any_below}
use Rattle.laws.specs.Front.{list}
use Rattle.laws.proofs.Every.{any-more}
use Rattle.laws.proofs.Front.{length-list}
use Rattle.set_places.specs.Places.{places, card_in, read_whole, spoilt, any_spoilt}
use Rattle.set_places.proofs.Changed.{length-place, part-place}
use Rattle.set_totals.specs.inside.Numbers.{summary_numbers, read_number, more, CanAdd}
use Rattle.set_totals.proofs.Tallied.{sum_over, numbers-are, tallied-none, tallied-more, tallied-can}
use Rattle.set_totals.proofs.whole_set.tally.Invariants.{spoilt_at}
use Rattle.set_totals.proofs.whole_set.tally.Goals as goal

pub loop-i-init : goal.loop-i-init
unfolding any_below
loop-i-init c = (refl, c.requires.1 ∙ tallied-none c.args.set.now)

pub tally_place-spoilt-requires : goal.tally_place-spoilt-requires
tally_place-spoilt-requires c =
    let set = c.args.set.now in (
      ap length (part-place set c.loop-i.i) ∙ length-place set c.loop-i.i c.requires.0 c.loop-i-test.true,
      subst CanAdd (sym c.loop-i.invariant.1) (tallied-can set c.loop-i.i (omega arith)),
    )

pub loop-i-preserved : goal.loop-i-preserved
loop-i-preserved c =
    let set = c.args.set.now in
    let place = c.tally_place-spoilt.ensures in
    let part = part-place set c.loop-i.i in (
      ap (λ (b : Bool). c.loop-i.spoilt || b) (place.0 ∙ ap spoilt part) ∙ any-more (spoilt_at set) c.loop-i.i c.loop-i.invariant.0,
      place.1
          ∙ ap₂ (λ (bytes numbers : List ℕ). more (read_number (read_whole (card_in bytes))) numbers) part c.loop-i.invariant.1
          ∙ tallied-more set c.loop-i.i,
    )

pub shape_of-numbers : goal.shape_of-numbers
shape_of-numbers c = ap length c.loop-i.invariant.1 ∙ length-list (sum_over _ _) summary_numbers ∙ sym (ap length c.requires.1 ∙ length-replicate {A = ℕ} summary_numbers 0)

pub returns : goal.returns
unfolding any_spoilt
returns c =
    let set = c.args.set.now in
    let all : c.loop-i.i ≡ places = omega arith in
    (c.loop-i.invariant.0 ∙ ap (any_below (spoilt_at set)) all, c.loop-i.invariant.1 ∙ ap (λ (n : ℕ). list (sum_over set n) summary_numbers) all ∙ sym (numbers-are set))
