-- A chroma has twelve values.
use mathlib.Core.Path.{ap, ◌∙◌}
use Prim.Native.Nat.{ℕ}
use Rattle.stored_analyses.specs.Rows.{same_among, same_chroma}
use Rattle.stored_analyses.proofs.rows.ArrayF3212Stored.agrees.Goals as goal

pub returns : goal.returns
unfolding same_chroma
returns c = c.entries_agree.ensures ∙ ap (λ (n : ℕ). same_among c.args.bytes.now c.args.at c.args.self.now n) c.told-self
