-- The card, a byte a turn from the front, and zeros behind it.
use Rattle.std.proofs.Common.{◌≡◌, rules, ℕ, ◌++◌, List, length, replicate, arith, sym, ap, ap₂, ◌∙◌}
use Rattle.laws.proofs.Front.{filled-start, filled_more, filled-whole, list-own}
use Rattle.set_places.proofs.Zeros.{in_place_lem}
use Rattle.set_places.proofs.places.fill_place.Goals as goal

pub loop-k-init : goal.loop-k-init
loop-k-init c = filled-start _ _

pub loop-k-preserved : goal.loop-k-preserved
loop-k-preserved c = filled_more _ _ _ _ c.loop-k.invariant (omega arith)

pub returns : goal.returns
returns c =
    let card = c.args.card.now in
    let front_len = c.split_at_mut-front.ensures.front_len in
    let front : c.loop-k.front ≡ card = filled-whole _ _ _ c.loop-k.k (length card) c.loop-k.invariant (omega arith) (omega (arith, front_len, c.requires.0, c.requires.1)) ∙ list-own card 0 in
    ap₂ (λ (xs ys : List ℕ). xs ++ ys) front (c.fill.ensures.after (search rules) ∙ ap (λ (n : ℕ). replicate n 0) (omega (arith, c.split_at_mut-front.ensures.back_len, c.requires.0))) ∙ sym (in_place_lem card c.requires.1)
