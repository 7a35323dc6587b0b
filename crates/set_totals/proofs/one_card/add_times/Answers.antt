-- A segment a turn, added to its key.
use mathlib.Core.Path.{◌≡◌, sym, ap, subst, ◌∙◌}
use mathlib.Core.List.{List}
use Prim.Native.Nat.{ℕ, ◌+◌, ◌<◌}
use native.Mathlib.Omega.{arith}
use lib.ListN.{length}
use Rattle.laws.proofs.Front.{length-list, get_or-list}
use Rattle.bits.specs.Bits.{bits_of_bytes}
use Rattle.card.specs.Layout.{most_segments}
use Rattle.card.specs.Rules.{card_segment}
use Rattle.card.specs.declared.layout.Layout.{Layout}
use Rattle.card.specs.declared.layout.Segment.{Segment}
use Rattle.card_form.specs.Form.{segment_width, count_on, segment_on, meaning_on}
use Rattle.card_form.proofs.Lengths.{one-more-fits}
use Rattle.card_reader.specs.Reading.{judged_of}
use Rattle.std.specs.Prelude.{Ok}
use Rattle.card_reader.proofs.Ready.{Ready, ready, all_there}
use Rattle.set_totals.proofs.Numbers.{more-long}
use Rattle.set_totals.proofs.Adding.{Added, added-start, added_more, added-end, key-inside, long, no-later, stays-small}
use Rattle.set_totals.proofs.one_card.add_times.Goals as goal

pub loop-i-init : goal.loop-i-init
loop-i-init c = added-start _ _ c.requires.2

-- what a turn knows: the card is sound, there is a segment i, and this is it
record Turn (card : List ℕ) (l : Layout) (i : ℕ) (s : Segment) : Type 0 where
  pub card_ready : Ready card most_segments l
  pub less : i < length (meaning_on l (bits_of_bytes card)).segments
  pub here : s ≡ card_segment (meaning_on l (bits_of_bytes card)).segments i

turn : (card : List ℕ) (l : Layout) (count i : ℕ) (s : Segment) → judged_of card most_segments ≡ Ok l → count ≡ count_on l (bits_of_bytes card) → i < count → s ≡ segment_on l (bits_of_bytes card) i → Turn card l i s
turn card l count i s judged counted less e =
    let at = segment_on l (bits_of_bytes card) in
    let all : i < count_on l (bits_of_bytes card) = omega (arith, counted) in
    record {
      card_ready = ready card most_segments l judged;
      less = rw (length-list at (count_on l (bits_of_bytes card))) all;
      here = e ∙ sym (get_or-list at (count_on l (bits_of_bytes card)) i _ all);
    }

pub segment_on-s-requires : goal.segment_on-s-requires
segment_on-s-requires c =
    let r = ready c.args.card.now most_segments c.args.l c.requires.0 in
    let there = rw (← c.requires.1) at (all_there r) in
    let few = rw (← c.requires.1) at r.room in
    (r.sound.fits, omega (arith, few), omega (arith, there, one-more-fits c.loop-i.i c.args.count (segment_width c.args.l) c.loop-i-test.true))

pub overflow_sub-s : goal.overflow_sub-s
overflow_sub-s c =
    let t = turn c.args.card.now c.args.l c.args.count c.loop-i.i c.segment_on-s.result c.requires.0 c.requires.1 c.loop-i-test.true c.segment_on-s.ensures in
    no-later c.args.l _ t.card_ready.sound t.card_ready.good c.requires.2 c.loop-i.invariant t.less t.here

pub raise-requires : goal.raise-requires
raise-requires c =
    let t = turn c.args.card.now c.args.l c.args.count c.loop-i.i c.segment_on-s.result c.requires.0 c.requires.1 c.loop-i-test.true c.segment_on-s.ensures in
    let low = key-inside c.args.l _ t.card_ready.sound t.card_ready.good c.requires.2 c.loop-i.invariant t.less t.here in
    let size = long c.args.l _ t.card_ready.sound t.card_ready.good c.requires.2 c.loop-i.invariant t.less t.here in
    (omega (arith, low, size), stays-small c.args.l _ t.card_ready.sound t.card_ready.good c.requires.2 c.loop-i.invariant t.less t.here)

pub loop-i-preserved : goal.loop-i-preserved
loop-i-preserved c =
    let t = turn c.args.card.now c.args.l c.args.count c.loop-i.i c.segment_on-s.result c.requires.0 c.requires.1 c.loop-i-test.true c.segment_on-s.ensures in
    subst (λ (now : List ℕ). Added (meaning_on c.args.l (bits_of_bytes c.args.card.now)) c.args.numbers.now now c.segment_on-s.result.end (c.loop-i.i + 1)) (sym c.raise.ensures) (added_more c.args.l _ t.card_ready.sound t.card_ready.good c.requires.2 c.loop-i.invariant t.less t.here)

pub shape_of-numbers : goal.shape_of-numbers
shape_of-numbers c = ap length c.loop-i.invariant.here ∙ more-long _ _ ∙ sym c.requires.2.size

pub returns : goal.returns
returns c =
    let counted : length (meaning_on c.args.l (bits_of_bytes c.args.card.now)).segments ≡ c.args.count = length-list (segment_on c.args.l (bits_of_bytes c.args.card.now)) _ ∙ sym c.requires.1 in
    added-end c.loop-i.invariant (omega (arith, counted))
