-- The lines are those of what was judged.
use mathlib.Core.Path.{sym, ap, ◌∙◌}
use Rattle.listing.specs.Listing.{refusal_line}
use Rattle.listing.proofs.Behind.{as-list}
use Rattle.listing.proofs.Whole.{of-refused, of-readable, can-list}
use Rattle.listing.proofs.cards.write_listing.Goals as goal

pub write_card_lines-requires : goal.write_card_lines-requires
write_card_lines-requires c = (can-list c.args.card.now _ (sym c.judge_card.ensures ∙ c.in-Ok.is), c.requires)

pub returns-in-Err : goal.returns-in-Err
returns-in-Err c =
    let judged = sym c.judge_card.ensures ∙ c.in-Err.is in
    as-list (ap refusal_line c.number.ensures ∙ of-refused c.args.card.now _ judged) c.write_refusal.ensures

pub returns-in-Ok : goal.returns-in-Ok
returns-in-Ok c =
    let judged = sym c.judge_card.ensures ∙ c.in-Ok.is in
    as-list (of-readable c.args.card.now _ judged) c.write_card_lines.ensures
