-- A case of the definition for each way out.
use Rattle.std.proofs.Common.{◌≡◌, ℕ, ◌+◌, Bool, true, false, cond, eqb, sym, ap, ◌∙◌, eq-eqb, ne_eqb}
use lib.Ieee.{Float, binary64, add, of_bits}
use Rattle.laws.specs.Convert.{half}
use Rattle.gathering.specs.Gather.{Heard, gathered_of}
use Rattle.gathering.specs.inside.Lent.{frames_lent}
use Rattle.timeline.specs.Estimates.{EstimateRows}
use Rattle.timeline.specs.inside.Estimates.{put_estimate}
use Rattle.windows.specs.Estimates.{estimate_of}
use Rattle.windows.specs.Run.{gathered_from, estimate_from, silent}
use Rattle.windows.specs.inside.Rows.{Written, wrote, window_written}
use Rattle.windows.specs.declared.span.Span.{Span}
use Rattle.gathering.specs.declared.gather.Gathered.{Gathered}
use Rattle.timeline.specs.declared.estimate.Estimate.{Estimate}
use Rattle.windows.proofs.run.write_window.Goals as goal

module _ (s : Span) (h : Heard) (start : Float) (n : ℕ) (before : EstimateRows) {g : Gathered} (told : g ≡ gathered_of h start (add binary64 start s.window)) where
  abbrev either : Bool → Written
  either quiet = cond quiet (wrote n before) (wrote (n + 1) (put_estimate (estimate_from s h start) n before))

  left-silent : eqb g.frames 0 ≡ true → wrote n before ≡ window_written s h start n before
  unfolding window_written silent gathered_from
  left-silent t = ap either (sym t ∙ ap (λ (x : Gathered). eqb x.frames 0) told)

  left-written : {e : Estimate} {after : EstimateRows} → eqb g.frames 0 ≡ false → e ≡ estimate_of (add binary64 start (half binary64 s.window)) g.chroma → after ≡ put_estimate e n before → wrote (n + 1) after ≡ window_written s h start n before
  unfolding window_written silent gathered_from estimate_from
  left-written {e} t same put =
      let found : e ≡ estimate_from s h start = same ∙ ap (λ (x : Gathered). estimate_of (add binary64 start (half binary64 s.window)) x.chroma) told in
      ap (wrote (n + 1)) (put ∙ ap (λ (x : Estimate). put_estimate x n before) found) ∙ ap either (sym t ∙ ap (λ (x : Gathered). eqb x.frames 0) told)

pub returns-then-found-eq0-clause-written : goal.returns-then-found-eq0-clause-written
returns-then-found-eq0-clause-written c =
    let asked = c.args in
    left-silent asked.span (frames_lent asked.frames) asked.start asked.n _ c.gather_window-found.ensures (eq-eqb _ _ c.if-found-eq0.true)

pub returns-clause-written : goal.returns-clause-written
unfolding of_bits
returns-clause-written c =
    let asked = c.args in
    left-written asked.span (frames_lent asked.frames) asked.start asked.n _ c.gather_window-found.ensures (ne_eqb _ _ c.if-found-eq0.false) c.estimate_of.ensures c.put.ensures.rows
