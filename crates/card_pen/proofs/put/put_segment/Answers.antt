-- The segment is put as one number.
use Rattle.card_pen.proofs.Puts.{number_put}
use Rattle.card_pen.proofs.put.put_segment.Goals as goal

pub returns : goal.returns
returns c = number_put c.segment_number-number.ensures c.put_bits.ensures
