-- Each answer is a law of `Shortens`.
use mathlib.Core.Bool.{not}
use mathlib.Core.Path.{ap}
use Rattle.shortening.proofs.Shortens.{stays-long, stays-first, joins-last, joins-longer}
use Rattle.shortening.proofs.shorten.joins_back.Goals as goal

pub returns-then-not-is_short : goal.returns-then-not-is_short
returns-then-not-is_short c = stays-long _ _ _ _ _ _ c.is_short.ensures (ap not c.if-not-is_short.true)

pub returns-then-last-eq0 : goal.returns-then-last-eq0
returns-then-last-eq0 c = stays-first _ _ _ _ _ _ c.is_short.ensures (ap not c.if-not-is_short.false) c.if-last-eq0.true

pub returns-then-next-count : goal.returns-then-next-count
returns-then-next-count c = joins-last _ _ _ _ _ _ c.is_short.ensures (ap not c.if-not-is_short.false) c.if-last-eq0.false c.if-next-count.true

pub returns : goal.returns
returns c = joins-longer _ _ _ _ _ _ c.is_short.ensures (ap not c.if-not-is_short.false) c.if-last-eq0.false c.if-next-count.false c.seconds-earlier.ensures c.seconds-later.ensures
