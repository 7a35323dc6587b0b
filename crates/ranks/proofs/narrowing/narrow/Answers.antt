-- Nothing goes, or what lies outside two bounds with the rank between their counts.
use native.Mathlib.Omega.{arith}
use Rattle.ranks.proofs.Kept.{counted-apart, sought-among, narrowed-among}
use Rattle.ranks.proofs.narrowing.narrow.Goals as goal

pub overflow_sub-result-2 : goal.overflow_sub-result-2
overflow_sub-result-2 c =
    let apart = counted-apart c.stretch_around-stretch.ensures c.if-sought-stretch.false c.if-stretch-sought.false in
    omega (arith, apart, c.order_key.ensures.key, c.order_key-low.ensures.key)

pub returns-clause-sought : goal.returns-clause-sought
returns-clause-sought c =
    let kept = c.keep_within-left in
    rw (c.order_key.ensures.key, c.order_key-low.ensures.key)
    (sought-among c.args.work.now _ _ _ _ _ _ _ _ c.slice_known-1.given c.requires.sought.room c.stretch_around-stretch.ensures c.if-sought-stretch.false c.if-stretch-sought.false kept.auto.values kept.ensures.many kept.ensures.front)

pub returns-clause-narrowed : goal.returns-clause-narrowed
returns-clause-narrowed c =
    let kept = c.keep_within-left in
    narrowed-among c.args.work.now _ _ _ _ _ _ _ _ c.slice_known-1.given c.requires.sought.room c.stretch_around-stretch.ensures c.if-sought-stretch.false c.if-stretch-sought.false kept.auto.values kept.ensures.many kept.ensures.front
