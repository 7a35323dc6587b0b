-- An entry a turn, joined to those before.
use mathlib.Core.Path.{◌≡◌}
use Prim.Native.Nat.{ℕ, ◌+◌, ◌*◌}
use lib.ListN.{get_or}
use Rattle.laws.specs.Every.{every}
use Rattle.stored_analyses.proofs.rows.entries_agree.Given as goal

abbrev pub invariant-loop-entry : goal.invariant-loop-entry
invariant-loop-entry g l =
    let m = g.T.Stored in
    (l.same ≡ every (λ (k : ℕ). m.same l.bytes (l.at + m.SIZE * k) (get_or l.entries k m.blank)) l.entry-index)
    × (l.place ≡ l.at + m.SIZE * l.entry-index)
