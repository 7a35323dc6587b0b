-- A search: each way out of a turn is a law of `Searches`.
use Rattle.shortening.proofs.Searches.{searched-start, searched-again, searched-out, searched-end}
use Rattle.shortening.proofs.shorten.first_short.Goals as goal

pub loop-i-init : goal.loop-i-init
loop-i-init c = searched-start _ _ _ _

pub loop-i-preserved : goal.loop-i-preserved
loop-i-preserved c = searched-again c.loop-i.invariant c.if-i-count.false c.is_short.ensures c.if-is_short.false

pub returns-then-i-count : goal.returns-then-i-count
returns-then-i-count c = searched-end c.loop-i.invariant c.if-i-count.true

pub returns-then-is_short : goal.returns-then-is_short
returns-then-is_short c = searched-out c.loop-i.invariant c.if-i-count.false c.is_short.ensures c.if-is_short.true
