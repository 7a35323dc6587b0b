-- The text takes the front.
use Rattle.std.proofs.Common.{ℕ, List, ◌++◌, length, drop, refl, ap}
use Rattle.listing.proofs.lines.write_bytes.Goals as goal

pub returns : goal.returns
returns c = record { size = refl; here = ap (λ (xs : List ℕ). xs ++ drop (length c.args.text.now) c.args.bytes.now) c.copy_from_slice.ensures.after }
