-- Each row is placed behind the one before.
use Rattle.std.proofs.Common.{◌≡◌, ◌+◌, refl, ap, ◌∙◌, arith}
use Rattle.sheets.specs.Sheet.{joined_length}
use Rattle.constant_q.specs.declared.powers.Placed.{Placed}
use Rattle.constant_q.proofs.powers.place_four.Goals as goal

pub place-q-requires : goal.place-q-requires
place-q-requires c = (c.requires.0, omega arith, ap (λ (x : Placed). x.next) c.place-p.ensures)

pub place-r-requires : goal.place-r-requires
place-r-requires c = let e : c.args.k + 1 + 1 ≡ c.args.k + 2 = omega arith in (c.requires.0, omega arith, ap (λ (x : Placed). x.next) c.place-q.ensures ∙ ap (joined_length c.args.lengths.now) e)

pub place-s-requires : goal.place-s-requires
place-s-requires c = let e : c.args.k + 2 + 1 ≡ c.args.k + 3 = omega arith in (c.requires.0, omega arith, ap (λ (x : Placed). x.next) c.place-r.ensures ∙ ap (joined_length c.args.lengths.now) e)

pub returns : goal.returns
returns c = let k = c.args.k in let e : k + 3 + 1 ≡ k + 4 = omega arith in rw (c.place-s.ensures, c.place-r.ensures, c.place-q.ensures, c.place-p.ensures, e) refl
