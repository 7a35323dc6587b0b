-- `is_whole` meets its contract: a test a turn.
use Rattle.std.proofs.Common.{◌≡◌, ℕ, ◌+◌, Bool, true, false, ◌&&◌, length, get_or, refl, ap, ◌∙◌, ap₂, arith, rules}
use lib.Ieee.{nan}
use lib.Ieee.Scale.{finite}
use Rattle.laws.specs.Every.{every, every_entry}
use Rattle.laws.proofs.Every.{every_more}
use Rattle.one_frame.specs.Frame.{whole}
use Rattle.one_frame.proofs.frame.is_whole.Goals as goal

-- a test joined to those of no value, and to one more
and_none : (first : Bool) → first ≡ (first && true)
and_none true = refl
and_none false = refl

and-more : (first : Bool) (test : ℕ → Bool) (i : ℕ) → ((first && every test i) && test i) ≡ (first && every test (i + 1))
and-more true test i = every_more test i refl
and-more false test i = refl

pub loop-i-init : goal.loop-i-init
unfolding every
loop-i-init c = and_none c.is_finite-sofar.result

pub loop-i-preserved : goal.loop-i-preserved
loop-i-preserved c = rw (c.is_finite-sofar-in-loop-i.ensures, c.loop-i.invariant) (and-more c.is_finite-sofar.result _ c.loop-i.i)

pub returns : goal.returns
unfolding whole every_entry
returns c =
    let last = c.loop-i in
    let row = c.args.row in
    let long : length row.values ≡ 12 = search rules in
    let all : last.i ≡ length row.values = omega arith in
    last.invariant ∙ ap₂ ◌&&◌ c.is_finite-sofar.ensures (ap (every (λ (k : ℕ). finite (get_or row.values k nan))) all)
