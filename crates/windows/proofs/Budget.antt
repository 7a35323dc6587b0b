-- Each start is at least half a second after the one before it: so the start behind the budget is after the longest duration, and one that is not after it grows.
use Rattle.std.proofs.Common.{◌≡◌, ℕ, ◌+◌, ◌-◌, ◌*◌, ◌^◌, ◌<◌, ◌≤◌, Bool, true, false, not, T, sym, refl, ap, ◌∙◌, subst, inl, inr, zero-add, arith, lit<, lit≤, T_not}
use borrow.Author.Tests.{not-false}
use lib.Dec.{not_T}
use lib.Ieee.{Float, binary64, add, lt, le, round}
use lib.Ieee.Scale.{round_same}
use Rattle.laws.specs.Values.{plus_zero, clear}
use Rattle.laws.specs.Convert.{parts}
use Rattle.laws.proofs.Cases.{same_test, lt-or-ge}
use Rattle.laws.proofs.First.{first-before, first-or-end}
use Rattle.laws.proofs.Order.{not-lt→le, le_refl, le_trans, le_left, lt_not_le, lt_of_le_of_lt, lt_of_lt_of_le}
use Rattle.laws.proofs.Nonneg.{nonneg→clear, clear→ordered, add-clear}
use Rattle.laws.proofs.Zero.{above-clear, plus_zero-add, add_right}
use Rattle.laws.proofs.Middle.{modest-under}
use Rattle.laws.proofs.Parts.{parts-clear, parts-mono, parts_held, parts-modest, add_parts, add-over, add-grows}
use Rattle.calls.specs.Call.{longest_track}
use Rattle.windows.specs.Span.{brief, start_of, ends_at, budget_for, windows_within, windows_of, rows_asked}
use Rattle.windows.specs.Budget.{Spread, StartsSpread, StartsGrow, BudgetSuffices, Passes}
use Rattle.windows.specs.declared.span.Span.{Span}
use Rattle.windows.proofs.Starts.{start_first, start-next, start-each, start_fits, start-clear}

-- half a second and more has the sign plus
onward : {s : Span} {seconds : ℕ} → Spread s seconds → T (clear s.hop)
unfolding round lt
onward {s} spread = above-clear s.hop (lt_of_lt_of_le plus_zero (parts binary64 1 1) s.hop tt spread.half_second)

module _ (s : Span) (seconds : ℕ) (spread : Spread s seconds) where
  spread-out : (k : ℕ) → T (clear (start_of s k)) × (k ≤ budget_for seconds → T (le (parts binary64 1 k) (start_of s k)))
  unfolding round le
  spread-out =
      start-each s (λ (k : ℕ) (x : Float). T (clear x) × (k ≤ budget_for seconds → T (le (parts binary64 1 k) x))) (tt, λ _. tt)
      (λ k x far. (
        add-clear binary64 x s.hop far.0 (onward spread),
        λ few. add-over binary64 1 (lit≤ tt) x s.hop k 1 (omega (arith, few, spread.exact)) far.0 (onward spread) (far.1 (omega (arith, few))) spread.half_second,
      ))

pub starts-spread : StartsSpread
starts-spread s seconds k spread few = (spread-out s seconds spread k).1 few

-- of the halves that are exact the last but one is below the last, so half a second more makes any of them grow
half-more : (m : ℕ) → m + 1 < 2 ^ 53 → T (lt (parts binary64 1 m) (parts binary64 1 (m + 1)))
unfolding round lt
half-more m h =
    let x = parts binary64 1 m in
    let half_second = parts binary64 1 1 in
    let last = 2 ^ 53 - 1 in
    let under : T (lt x (parts binary64 1 last)) = lt_of_le_of_lt x (parts binary64 1 (last - 1)) (parts binary64 1 last) (parts-mono binary64 1 m (last - 1) (omega arith)) tt in
    subst (λ (z : Float). T (lt x z)) (add_parts binary64 1 (lit≤ tt) m 1 h)
    (add-grows binary64 1 (lit≤ tt) x half_second last (parts_held binary64 1 (lit≤ tt) m (omega arith)).at_least_zero (parts-clear binary64 1 1) under (lit< tt) (le_refl half_second (clear→ordered half_second (parts-clear binary64 1 1))))

-- so the half behind the last second is after it
half-after : (seconds : ℕ) → budget_for seconds < 2 ^ 53 → T (lt (parts binary64 0 seconds) (parts binary64 1 (budget_for seconds)))
half-after seconds h =
    let twice : seconds * 2 ≡ 2 * seconds * 1 = omega arith in
    subst (λ (z : Float). T (lt z (parts binary64 1 (budget_for seconds)))) (sym (round_same binary64 false seconds 1 (2 * seconds) 2 (lit< tt) (lit< tt) twice)) (half-more (2 * seconds) h)

module _ (s : Span) (seconds : ℕ) (spread : Spread s seconds) where
  -- no window ends before it starts
  forward : (k : ℕ) → T (le (start_of s k) (add binary64 (start_of s k) s.window))
  forward k = add_right binary64 (start_of s k) s.window (start_fits s k) (start-clear s (onward spread) k) (nonneg→clear s.window spread.window.at_least_zero)

  -- where the loop's own test has passed, the start is not after the last second, and grows
  grows-there : (k : ℕ) → ends_at s k ≡ false → T (lt (start_of s k) (start_of s (k + 1)))
  unfolding ends_at
  grows-there k passes =
      let start = start_of s k in
      let end = add binary64 start s.window in
      let last = parts binary64 0 seconds in
      let inside : T (le end s.duration) = subst T (sym (not-false (le end s.duration) passes)) tt in
      let under : T (le start last) = le_trans start end last (forward k) (le_trans end s.duration last inside spread.duration) in
      let modest = modest-under binary64 start last (start_fits s k) (start-clear s (onward spread) k) (parts-modest binary64 0 (lit≤ tt) seconds (omega (arith, spread.exact))) under in
      subst (λ (x : Float). T (lt start x)) (start-next s k refl)
      (add-grows binary64 1 (lit≤ tt) start s.hop (budget_for seconds) modest.held.at_least_zero (onward spread) (lt_of_le_of_lt start last (parts binary64 1 (budget_for seconds)) under (half-after seconds spread.exact)) spread.exact spread.half_second)

  -- the start behind the budget
  ends_there : ends_at s (budget_for seconds) ≡ true
  unfolding ends_at
  ends_there =
      let start = start_of s (budget_for seconds) in
      let end = add binary64 start s.window in
      let behind = parts binary64 1 (budget_for seconds) in
      let after : T (le behind end) = le_trans behind start end (starts-spread s seconds (budget_for seconds) spread (omega arith)) (forward (budget_for seconds)) in
      same_test (not (le end s.duration)) true (λ _. tt) (λ _. not_T (le end s.duration) (λ (inside : T (le end s.duration)).
      lt_not_le (parts binary64 0 seconds) behind (half-after seconds spread.exact) (le_trans behind end (parts binary64 0 seconds) after (le_trans end s.duration (parts binary64 0 seconds) inside spread.duration))))

-- the loop's own test lets each window's pass begin
begins-there : (s : Span) (seconds k : ℕ) → k < windows_within (budget_for seconds) s → ends_at s k ≡ false
unfolding windows_within
begins-there s seconds k inside = first-before (ends_at s) (budget_for seconds) 0 k (omega arith) inside

pub starts-grow : StartsGrow
starts-grow s seconds k spread inside = grows-there s seconds spread k (begins-there s seconds k inside)

pub budget-suffices : BudgetSuffices
unfolding windows_within
budget-suffices s seconds spread =
    elim (first-or-end (ends_at s) (budget_for seconds) 0) [
      | inl passes ↦ passes
      | inr none ↦ ap (ends_at s) (none ∙ zero-add (budget_for seconds)) ∙ ends_there s seconds spread
    ]

-- ---- the passes that a track's rows are asked for
module _ (s : Span) (spread : Spread s longest_track) (long : brief s ≡ false) where
  -- a track of a window and a hop has a first window
  first-begins : ends_at s 0 ≡ false
  unfolding ends_at brief
  first-begins =
      let window = s.window in
      let clear-window = nonneg→clear window spread.window.at_least_zero in
      let both = add binary64 window s.hop in
      let all : T (le both s.duration) = not-lt→le s.duration both (le_left s.duration _ spread.duration) (clear→ordered both (add-clear binary64 window s.hop clear-window (onward spread))) (subst (λ (b : Bool). T (not b)) (sym long) tt) in
      let one : T (le window s.duration) = le_trans window both s.duration (add_right binary64 window s.hop spread.window.in_format clear-window (onward spread)) all in
      let at : window ≡ add binary64 (start_of s 0) window = sym (plus_zero-add binary64 window spread.window.in_format clear-window) ∙ ap (λ (x : Float). add binary64 x window) (start_first s) in
      same_test (not (le (add binary64 (start_of s 0) window) s.duration)) false (λ t. absurd (T_not (le (add binary64 (start_of s 0) window) s.duration) t (subst (λ (x : Float). T (le x s.duration)) at one))) (λ n. absurd n)

  all_asked : windows_within (budget_for longest_track) s ≡ rows_asked s
  unfolding rows_asked windows_of
  all_asked =
      let passes = windows_within (budget_for longest_track) s in
      let some : 0 < passes = elim (lt-or-ge 0 passes) [
        | inl first ↦ first
        | inr none ↦ let at : passes ≡ 0 = omega (arith, none) in absurd (subst T (sym (budget-suffices s longest_track spread) ∙ ap (ends_at s) at ∙ first-begins) tt)
      ] in
      rw long (omega (arith, some))

  pub asked-passes : Passes s (rows_asked s)
  asked-passes =
      subst (Passes s) all_asked
      (record {
        begins = begins-there s longest_track;
        ends = budget-suffices s longest_track spread;
        grows = λ k inside. starts-grow s longest_track k spread inside;
      })

-- a brief track has no window, and asks for one row
pub one-asked : (s : Span) → brief s ≡ true → rows_asked s ≡ 1
unfolding rows_asked windows_of
one-asked s short = rw short
