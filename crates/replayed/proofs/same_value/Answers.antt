-- The two keys compared are the definition's.
use Rattle.replayed.proofs.same_value.Goals as goal

pub returns : goal.returns
returns c = rw (c.order_key.ensures.key, c.order_key-2.ensures.key)
