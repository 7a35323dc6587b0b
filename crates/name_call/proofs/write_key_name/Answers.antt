-- Each return is a row of the table, or the name written.
use Rattle.name_call.proofs.Outcomes.{no_key, no_room, written}
use Rattle.name_call.proofs.write_key_name.Goals as goal

pub returns-then-number-gt23 : goal.returns-then-number-gt23
returns-then-number-gt23 c = no_key c.args.number _ c.if-number-gt23.true c.refused.ensures

pub returns-then-bytes-name_length : goal.returns-then-bytes-name_length
returns-then-bytes-name_length c = no_room c.args.number _ c.if-number-gt23.false c.key_from_index-key.ensures c.name_length.ensures c.if-bytes-name_length.true c.refused-then-bytes-name_length.ensures

pub returns : goal.returns
returns c = written c.args.number _ c.if-number-gt23.false c.key_from_index-key.ensures c.name_length.ensures c.if-bytes-name_length.false c.write_name.ensures.0 c.write_name.ensures.1
