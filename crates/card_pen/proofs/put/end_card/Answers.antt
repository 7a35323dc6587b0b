-- Fewer bits are missing than would make another byte.
use native.Mathlib.Omega.{arith}
use lib.Pow.{pow_pos}
use Rattle.card_pen.specs.inside.Putting.{filler_width}
use Rattle.card_pen.proofs.put.end_card.Goals as goal

pub put_bits-requires : goal.put_bits-requires
put_bits-requires c =
    record {
      ready = c.requires.ready;
      narrow = omega arith;
      fits = pow_pos (filler_width c.args.pen);
      room = omega (arith, c.requires.ready.few, c.requires.room);
    }
