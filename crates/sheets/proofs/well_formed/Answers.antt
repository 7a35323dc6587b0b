-- Where the lengths fit, the rows are few enough for their sum, and the entries decide.
use mathlib.Core.Bool.{not}
use mathlib.Core.Path.{ap}
use native.Mathlib.Omega.{arith}
use lib.Ieee.{of_bits, neg}
use Rattle.calls.specs.Lent.{sheet_in}
use Rattle.sheets.proofs.Formed.{not-fitting, few-rows, by_entries}
use Rattle.sheets.proofs.well_formed.Goals as goal

pub returns-then-not-lists_fit : goal.returns-then-not-lists_fit
returns-then-not-lists_fit c = not-fitting (sheet_in c.args.sheet) c.lists_fit.ensures (ap not c.if-not-lists_fit.true)

pub joined_length-requires : goal.joined_length-requires
joined_length-requires c = omega (arith, few-rows (sheet_in c.args.sheet) c.lists_fit.ensures (ap not c.if-not-lists_fit.false))

pub returns : goal.returns
unfolding of_bits neg
returns c = by_entries (sheet_in c.args.sheet) c.lists_fit.ensures (ap not c.if-not-lists_fit.false) c.all_lengths.ensures c.joined_length.ensures c.all_from_to.ensures c.all_from_to-2.ensures c.all_weights.ensures c.all_from_to-3.ensures c.all_from_to-4.ensures
