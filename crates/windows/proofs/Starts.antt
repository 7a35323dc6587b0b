-- Where windows start: the hop is added from one to the next, so a loop that carries the start carries that of window k.
use Rattle.std.proofs.Common.{◌≡◌, ℕ, zero, suc, ◌+◌, Bool, T, sym, refl, ap, ◌∙◌, subst, add-one}
use lib.Ieee.{Float, binary64, add, le, fits}
use lib.Ieee.Fits.{add-fits}
use Rattle.laws.specs.Turns.{turns}
use Rattle.laws.specs.Values.{plus_zero, clear}
use Rattle.laws.proofs.Turns.{turns-last}
use Rattle.laws.proofs.Nonneg.{add-clear}
use Rattle.laws.proofs.Zero.{plus_zero-held, add_right}
use Rattle.windows.specs.Span.{start_of, overhangs, ends_at}
use Rattle.windows.specs.declared.span.Span.{Span}

pub start_first : (s : Span) → plus_zero ≡ start_of s 0
unfolding start_of turns
start_first s = refl

module _ (s : Span) (k : ℕ) {start : Float} (here : start ≡ start_of s k) where
  pub start-next : add binary64 start s.hop ≡ start_of s (k + 1)
  unfolding start_of
  start-next = ap (λ (x : Float). add binary64 x s.hop) here ∙ sym (turns-last (λ (_ : ℕ) (start : Float). add binary64 start s.hop) k plus_zero)

  -- a test of the start that is carried is the test of window k
  pub ends-here : {answer : Bool} → overhangs s start ≡ answer → ends_at s k ≡ answer
  unfolding ends_at
  ends-here t = sym (ap (overhangs s) here) ∙ t

-- what holds of +0 and is kept where the hop is added holds of every start
pub start-each : (s : Span) (P : ℕ → Float → Type 0) → P 0 plus_zero → ((k : ℕ) (x : Float) → P k x → P (k + 1) (add binary64 x s.hop)) → (k : ℕ) → P k (start_of s k)
start-each s P base step zero = subst (P 0) (start_first s) base
start-each s P base step (suc k) =
    subst (λ (j : ℕ). P j (start_of s j)) (add-one k) (subst (P (k + 1)) (start-next s k refl) (step k (start_of s k) (start-each s P base step k)))

pub start_fits : (s : Span) (k : ℕ) → T (fits binary64 (start_of s k))
start_fits s = start-each s (λ (k : ℕ) (x : Float). T (fits binary64 x)) (plus_zero-held binary64).in_format (λ k x _. add-fits binary64 x s.hop)

module _ (s : Span) (hop : T (clear s.hop)) where
  pub start-clear : (k : ℕ) → T (clear (start_of s k))
  start-clear = start-each s (λ (k : ℕ) (x : Float). T (clear x)) tt (λ k x c. add-clear binary64 x s.hop c hop)

  -- no start is below the one before it
  pub start-upward : (k : ℕ) → T (le (start_of s k) (start_of s (k + 1)))
  start-upward k = subst (λ (x : Float). T (le (start_of s k) x)) (start-next s k refl) (add_right binary64 (start_of s k) s.hop (start_fits s k) (start-clear k) hop)
