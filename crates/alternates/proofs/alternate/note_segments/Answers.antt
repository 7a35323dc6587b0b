-- What is noted of the first i segments; a law for each way through a turn.
use mathlib.Core.Path.{◌≡◌, sym, ap, ◌∙◌, subst}
use mathlib.Core.Bool.{Bool}
use mathlib.Core.List.{List, [], ◌∷◌, ◌++◌}
use Prim.Native.Nat.{ℕ, ◌+◌, ◌<◌}
use native.Mathlib.Omega.{arith}
use lib.Ieee.{Float, binary64, of_bits, add}
use Rattle.laws.specs.Front.{list}
use Rattle.laws.proofs.Front.{list-more}
use Rattle.keys.specs.Numbers.{key_number}
use Rattle.keys.specs.declared.Key.{Key}
use Rattle.keys.proofs.Placed.{numbers-are-keys}
use Rattle.timeline.specs.inside.Segments.{Stretches, lent_stretches, stretch_in, stretches_in}
use Rattle.timeline.specs.declared.segment.Segment.{Segment}
use Rattle.alternates.specs.inside.Noted.{noted_of}
use Rattle.alternates.proofs.Noting.{Noting, noting-start, noting-idle, unmet-fits, noting-new, noting-known, noting-all}
use Rattle.alternates.proofs.alternate.note_segments.Goals as goal
use Rattle.alternates.proofs.alternate.note_segments.Goals.{then-is_lasting+then-not-known-at, then-is_lasting+else-not-known-at, else-is_lasting}

-- a key's number is one of 24
placed : {number : ℕ} (key : Key) → number ≡ key_number key → number < 24
placed {number} key own = subst (λ (n : ℕ). n < 24) (sym own) (numbers-are-keys.below key)

-- what is noted once the next segment is read
noted-next : (rows : Stretches) (i : ℕ) {reported met : ℕ} {s : Segment} {sums : List Float} {order : List ℕ} {known : List Bool} → s ≡ stretch_in rows i → Noting reported (stretches_in rows i ++ (s ∷ [])) sums order known met → Noting reported (stretches_in rows (i + 1)) sums order known met
noted-next rows i {reported} {met} {s} {sums} {order} {known} e n =
    subst (λ (l : List Segment). Noting reported l sums order known met) (ap (λ (t : Segment). stretches_in rows i ++ (t ∷ [])) e ∙ sym (list-more (stretch_in rows) i)) n

pub loop-i-init : goal.loop-i-init
unfolding list of_bits
loop-i-init c = noting-start c.args.reported c.requires.0

pub overflow_cast-at : goal.overflow_cast-at
overflow_cast-at c = omega (arith, placed _ c.from-key.ensures)

pub offset_bounds-sums-at : goal.offset_bounds-sums-at
offset_bounds-sums-at c = omega (arith, placed _ c.from-key.ensures)

pub bounds-sums-at : goal.bounds-sums-at
bounds-sums-at c = placed _ c.from-key.ensures

pub bounds-sums-at-then-is_lasting : goal.bounds-sums-at-then-is_lasting
bounds-sums-at-then-is_lasting c = placed _ c.from-key.ensures

pub bounds-known-at : goal.bounds-known-at
bounds-known-at c = placed _ c.from-key.ensures

pub bounds-known-at-then-not-known-at : goal.bounds-known-at-then-not-known-at
bounds-known-at-then-not-known-at c = placed _ c.from-key.ensures

pub bounds-order-met : goal.bounds-order-met
bounds-order-met c =
    unmet-fits c.args.reported _ _ _ _ _ c.loop-i.invariant c.stretch_at-segment.result (sym c.is_lasting.ensures ∙ c.if-is_lasting.true) _ c.from-key.ensures _ c.if-not-known-at.true

pub overflow_add-met : goal.overflow_add-met
overflow_add-met c =
    omega (arith, unmet-fits c.args.reported _ _ _ _ _ c.loop-i.invariant c.stretch_at-segment.result (sym c.is_lasting.ensures ∙ c.if-is_lasting.true) _ c.from-key.ensures _ c.if-not-known-at.true)

pub loop-i-preserved : goal.loop-i-preserved
loop-i-preserved c =
    let rows : Stretches = lent_stretches c.args.starts.now c.args.ends.now c.args.keys.now in
    let segments = stretches_in rows c.loop-i.i in
    let sofar = c.loop-i.invariant in
    let s = c.stretch_at-segment.result in
    let read = c.stretch_at-segment.ensures in
    elim c.if-is_lasting.branch [
      | then-is_lasting+then-not-known-at w ↦ rw (w.sums-is, w.order-is, w.known-is, w.met-is) (noted-next rows c.loop-i.i read (noting-new c.args.reported segments _ _ _ _ sofar s (sym c.is_lasting.ensures ∙ w.if-is_lasting.true) _ w.from-key.ensures _ (ap (add binary64 _) w.held_seconds.ensures) _ w.if-not-known-at.true))
      | then-is_lasting+else-not-known-at w ↦ rw (w.sums-is, w.order-is, w.known-is, w.met-is) (noted-next rows c.loop-i.i read (noting-known c.args.reported segments _ _ _ _ sofar s (sym c.is_lasting.ensures ∙ w.if-is_lasting.true) _ w.from-key.ensures _ (ap (add binary64 _) w.held_seconds.ensures) _ w.if-not-known-at.false))
      | else-is_lasting w ↦ rw (w.sums-is, w.order-is, w.known-is, w.met-is) (noted-next rows c.loop-i.i read (noting-idle c.args.reported segments _ _ _ _ sofar s (sym c.is_lasting.ensures ∙ w.if-is_lasting.false)))
    ]

pub returns : goal.returns
returns c =
    let rows : Stretches = lent_stretches c.args.starts.now c.args.ends.now c.args.keys.now in
    let all : c.loop-i.i ≡ c.args.count = omega (arith, c.loop-i.auto.i-end, c.loop-i-test.false) in
    noting-all c.args.reported (stretches_in rows c.loop-i.i) _ _ _ _ c.loop-i.invariant ∙ ap (λ (n : ℕ). noted_of c.args.reported (stretches_in rows n)) all
