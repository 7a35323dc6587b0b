-- The leaf where each number is a key's.
use mathlib.Core.Path.{◌≡◌, sym, subst, ◌∙◌}
use mathlib.Core.Bool.{true}
use lib.Dec.{T}
use lib.ListN.{length}
use Rattle.probe_segments.specs.Segments.{all_numbers}
use Rattle.probe_segments.proofs.Segmenting.{numbered}
use Rattle.probe_segments.proofs.segments_of_rows.probe_majority.Goals as goal

pub majority_key-requires : goal.majority_key-requires
majority_key-requires c =
    let all_are : let numbers = c.args.numbers.now in all_numbers numbers (length numbers) ≡ true = sym c.all_numbers.ensures ∙ c.if-all_numbers.true in
    numbered c.args.numbers.now _ (subst T (sym (all_are)) tt)

pub returns-then-all_numbers : goal.returns-then-all_numbers
returns-then-all_numbers c =
    let all_are : let numbers = c.args.numbers.now in all_numbers numbers (length numbers) ≡ true = sym c.all_numbers.ensures ∙ c.if-all_numbers.true in
    rw (all_are) c.majority_key.ensures

pub returns-else-all_numbers : goal.returns-else-all_numbers
returns-else-all_numbers c = rw (sym c.all_numbers.ensures ∙ c.if-all_numbers.false)
