-- Each return is a branch of the definition.
use mathlib.Core.Path.{◌∙◌, sym, ap, subst}
use Prim.Native.Nat.{ℕ, ◌<◌}
use lib.Ieee.{of_bits}
use borrow.Author.Rules.{rules}
use Rattle.keys.specs.Numbers.{key_number}
use Rattle.keys.proofs.Placed.{numbers-are-keys}
use Rattle.timeline.specs.inside.Segments.{lent_stretches, stretches_in}
use Rattle.alternates.specs.Alternate.{rival_of}
use Rattle.alternates.proofs.Noting.{noted-fits, rival-told}
use Rattle.alternates.proofs.Branches.{none-asked, all-instants, rival-named}
use Rattle.alternates.proofs.alternate.alternate_key.Goals as goal

pub returns-then-threshold-count : goal.returns-then-threshold-count
unfolding of_bits
returns-then-threshold-count c = none-asked ((lent_stretches c.args.starts.now c.args.ends.now c.args.keys.now)) c.args.count (key_number c.args.reported) c.args.threshold c.if-threshold-count.true

pub returns-then-total : goal.returns-then-total
unfolding of_bits
returns-then-total c = all-instants ((lent_stretches c.args.starts.now c.args.ends.now c.args.keys.now)) c.args.count (key_number c.args.reported) c.args.threshold c.if-threshold-count.false c.total_seconds-total.ensures c.if-total.true

pub note_segments-noted-requires : goal.note_segments-noted-requires
note_segments-noted-requires c =
    let numbered : c.from.result < 24 = subst (λ (n : ℕ). n < 24) (sym c.from.ensures) (numbers-are-keys.below c.args.reported) in
    (numbered, search rules)

pub find_leader-requires : goal.find_leader-requires
find_leader-requires c =
    let numbered : c.from.result < 24 = subst (λ (n : ℕ). n < 24) (sym c.from.ensures) (numbers-are-keys.below c.args.reported) in
    noted-fits c.from.result (numbered) ((stretches_in ((lent_stretches c.args.starts.now c.args.ends.now c.args.keys.now)) c.args.count)) c.note_segments-noted.ensures

pub returns : goal.returns
unfolding of_bits
returns c =
    let numbered : c.from.result < 24 = subst (λ (n : ℕ). n < 24) (sym c.from.ensures) (numbers-are-keys.below c.args.reported) in
    let rival = c.find_leader.ensures ∙ rival-told c.from.result (numbered) ((stretches_in ((lent_stretches c.args.starts.now c.args.ends.now c.args.keys.now)) c.args.count)) c.note_segments-noted.ensures ∙ ap (λ (key : ℕ). rival_of key ((stretches_in ((lent_stretches c.args.starts.now c.args.ends.now c.args.keys.now)) c.args.count))) c.from.ensures in
    c.judge.ensures
    ∙ rival-named ((lent_stretches c.args.starts.now c.args.ends.now c.args.keys.now)) c.args.count (key_number c.args.reported) c.args.threshold c.if-threshold-count.false c.total_seconds-total.ensures c.if-total.false rival
