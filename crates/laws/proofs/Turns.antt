-- What the proof of a counted loop cites. A loop `while i < n` has the invariant `turns step (n - i) i s ≡ t`, with t its result:
-- `turns-start` where it begins, `turns-again` after a turn, `turns-end` where it ends.
use mathlib.Core.Path.{◌≡◌, refl, sym, ap, subst, ◌∙◌}
use Prim.Native.Nat.{ℕ, zero, suc, ◌+◌, ◌-◌, ◌<◌, ◌≤◌}
use native.Mathlib.Numerals.{add-one}
use native.Mathlib.Nat.{add-zero, zero-add}
use native.Mathlib.Omega.{arith}
use Rattle.laws.specs.Turns.{turns}

pub one_less : (n i : ℕ) → i < n → n - i ≡ suc (n - (i + 1))
one_less n i h = omega arith

pub none_left : (n i : ℕ) → n ≤ i → n - i ≡ 0
none_left n i h = omega arith

pub all_left : (n : ℕ) → n - 0 ≡ n
all_left n = omega arith

pub turns-start : {S : Type 0} (step : ℕ → S → S) (n : ℕ) (s : S) → turns step (n - 0) 0 s ≡ turns step n 0 s
turns-start step n s = ap (λ (k : ℕ). turns step k 0 s) (all_left n)

pub turns-again : {S : Type 0} (step : ℕ → S → S) (n i : ℕ) {s s' t : S} → turns step (n - i) i s ≡ t → i < n → s' ≡ step i s → turns step (n - (i + 1)) (i + 1) s' ≡ t
unfolding turns
turns-again step n i {s} inv h e = ap (turns step (n - (i + 1)) (i + 1)) e ∙ sym (ap (λ (k : ℕ). turns step k i s) (one_less n i h)) ∙ inv

pub turns-end : {S : Type 0} (step : ℕ → S → S) (n i : ℕ) {s t : S} → turns step (n - i) i s ≡ t → n ≤ i → s ≡ t
unfolding turns
turns-end step n i {s} inv h = sym (ap (λ (k : ℕ). turns step k i s) (none_left n i h)) ∙ inv

-- the last of n + 1 turns
last_turn : {S : Type 0} (step : ℕ → S → S) (n i : ℕ) (s : S) → turns step (suc n) i s ≡ step (i + n) (turns step n i s)
unfolding turns
last_turn step zero i s = ap (λ (k : ℕ). step k s) (sym (add-zero i))
last_turn step (suc n) i s = last_turn step n (i + 1) (step i s) ∙ ap (λ (k : ℕ). step k (turns step n (i + 1) (step i s))) (further i n)
  where
    further : (i n : ℕ) → i + 1 + n ≡ i + suc n
    further i n = omega arith

pub turns-last : {S : Type 0} (step : ℕ → S → S) (n : ℕ) (s : S) → turns step (n + 1) 0 s ≡ step n (turns step n 0 s)
turns-last step n s = ap (λ (k : ℕ). turns step k 0 s) (add-one n) ∙ last_turn step n 0 s ∙ ap (λ (k : ℕ). step k (turns step n 0 s)) (zero-add n)

-- what holds at the start, and is kept by each turn, holds after n turns
pub turns-keep : {S : Type 0} (P : ℕ → S → Type 0) (step : ℕ → S → S) (s : S) → P 0 s → ((i : ℕ) (x : S) → P i x → P (suc i) (step i x)) → (n : ℕ) → P n (turns step n 0 s)
unfolding turns
turns-keep P step s start more zero = start
turns-keep P step s start more (suc n) =
    let last : turns step (suc n) 0 s ≡ step n (turns step n 0 s) = ap (λ (k : ℕ). turns step k 0 s) (sym (add-one n)) ∙ turns-last step n s in
    subst (P (suc n)) (sym last) (more n (turns step n 0 s) (turns-keep P step s start more n))

-- m turns, and then n more
turns-after : {S : Type 0} (step : ℕ → S → S) (m n i : ℕ) (s : S) → turns step (m + n) i s ≡ turns step n (i + m) (turns step m i s)
unfolding turns
turns-after step zero n i s = ap (λ (k : ℕ). turns step k i s) (zero-add n) ∙ ap (λ (k : ℕ). turns step n k s) (sym (add-zero i))
turns-after step (suc m) n i s =
    let count : suc m + n ≡ suc (m + n) = omega arith in
    let at : i + 1 + m ≡ i + suc m = omega arith in
    ap (λ (k : ℕ). turns step k i s) count ∙ turns-after step m n (i + 1) (step i s) ∙ ap (λ (k : ℕ). turns step n k (turns step m (i + 1) (step i s))) at

-- turns that change nothing
turns-idle : {S : Type 0} (step : ℕ → S → S) (n i : ℕ) (s : S) → ((k : ℕ) → i ≤ k → k < i + n → step k s ≡ s) → turns step n i s ≡ s
unfolding turns
turns-idle step zero i s idle = refl
turns-idle step (suc n) i s idle =
    ap (turns step n (i + 1)) (idle i (omega arith) (omega arith)) ∙ turns-idle step n (i + 1) s (λ k low high. idle k (omega (arith, low)) (omega (arith, high)))

-- of n turns only those from `from` on and before `stop` are taken, where the others change nothing
pub turns-between : {S : Type 0} (step : ℕ → S → S) (n from stop : ℕ) (s : S) → from ≤ stop → stop ≤ n → ((k : ℕ) → k < from → (x : S) → step k x ≡ x) → ((k : ℕ) → stop ≤ k → k < n → (x : S) → step k x ≡ x) → turns step (stop - from) from s ≡ turns step n 0 s
turns-between step n from stop s low high before after =
    let taken = turns step (stop - from) from s in
    let all : n ≡ from + (stop - from + (n - stop)) = omega arith in
    let at : from + (stop - from) ≡ stop = omega arith in
    let none_after : turns step (n - stop) (from + (stop - from)) taken ≡ taken = turns-idle step (n - stop) (from + (stop - from)) taken (λ k l h. after k (omega (arith, l)) (omega (arith, h)) taken) in
    let none_before : turns step from 0 s ≡ s = turns-idle step from 0 s (λ k l h. before k (omega (arith, h)) s) in
    sym
    (ap (λ (k : ℕ). turns step k 0 s) all
    ∙ turns-after step from (stop - from + (n - stop)) 0 s
    ∙ ap (λ (k : ℕ). turns step (stop - from + (n - stop)) k (turns step from 0 s)) (zero-add from)
    ∙ ap (turns step (stop - from + (n - stop)) from) none_before
    ∙ turns-after step (stop - from) (n - stop) from s
    ∙ none_after)

-- a part of a loop's state that follows a loop of its own
pub turns-part : {S T : Type 0} (part : S → T) (step : ℕ → S → S) (own : ℕ → T → T) (n i : ℕ) → ((j : ℕ) (s : S) → j < i + n → part (step j s) ≡ own j (part s)) → (s : S) → part (turns step n i s) ≡ turns own n i (part s)
unfolding turns
turns-part part step own zero i e s = refl
turns-part part step own (suc n) i e s =
    turns-part part step own n (i + 1) (λ (j : ℕ) (s : _) (h : j < i + 1 + n). e j s (omega arith)) (step i s) ∙ ap (turns own n (i + 1)) (e i s (omega arith))
