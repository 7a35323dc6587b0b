-- `frame_energy` meets its contract: a sample a turn, and -0 added for one that is not finite changes nothing.
use Rattle.std.proofs.Common.{◌≡◌, ◌+◌, true, false, cond, T, get_or, sym, refl, ◌∙◌, rules}
use Rattle.laws.proofs.Turns.{turns-start, turns-again, turns-end}
use Rattle.one_frame.specs.Frame.{square_added, frame_energy}
use lib.Ieee.Scale.{finite}
use Rattle.laws.specs.Values.{minus_zero}
use lib.Ieee.{Float, nan, binary32, of_bits, neg, add, mul, fits}
use lib.Ieee.Fits.{add-fits}
use Rattle.laws.proofs.Zero.{add-minus_zero}
use Rattle.one_frame.proofs.frame.frame_energy.Goals as goal
use Rattle.one_frame.proofs.frame.frame_energy.Goals.{then-is_finite, else-is_finite}

-- the two ways of a turn
module _ (x sum : Float) {square : Float} where
  finite-added : finite x ≡ true → square ≡ mul binary32 x x → add binary32 sum square ≡ cond (finite x) (add binary32 sum (mul binary32 x x)) sum
  finite-added told is = rw (told, is) refl

  nothing-added : T (fits binary32 sum) → finite x ≡ false → square ≡ minus_zero → add binary32 sum square ≡ cond (finite x) (add binary32 sum (mul binary32 x x)) sum
  nothing-added held told is = rw (told, is) (add-minus_zero binary32 sum held)

pub loop-i-init : goal.loop-i-init
unfolding of_bits neg fits
loop-i-init c = (turns-start _ _ _, tt)

pub loop-i-preserved : goal.loop-i-preserved
unfolding square_added of_bits neg
loop-i-preserved c =
    let a = c.args in
    let x = get_or a.samples.now (a.start + c.loop-i.i) nan in
    let told = sym c.is_finite.ensures in
    let added : add binary32 c.loop-i.sum c.if-is_finite.square ≡ square_added a.samples.now a.start c.loop-i.i c.loop-i.sum = elim c.if-is_finite.branch [ then-is_finite w ↦ finite-added x c.loop-i.sum (told ∙ w.if-is_finite.true) w.square-is | else-is_finite w ↦ nothing-added x c.loop-i.sum c.loop-i.invariant.1 (told ∙ w.if-is_finite.false) w.square-is ] in
    (turns-again (square_added a.samples.now a.start) a.size c.loop-i.i c.loop-i.invariant.0 (search rules) added, add-fits binary32 c.loop-i.sum c.if-is_finite.square)

pub returns : goal.returns
unfolding frame_energy
returns c =
    let a = c.args in
    let e = turns-end (square_added a.samples.now a.start) a.size c.loop-i.i c.loop-i.invariant.0 (search rules) in
    rw (c.nearest_u32_to_f32.ensures, e)
