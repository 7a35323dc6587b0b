-- A fresh pen puts the header as one number.
use Rattle.card_pen.proofs.Puts.{number_put}
use Rattle.card_pen.proofs.put.start_card.Goals as goal

pub returns : goal.returns
returns c = number_put c.header_number-number.ensures c.put_bits.ensures
