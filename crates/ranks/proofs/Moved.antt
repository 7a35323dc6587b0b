-- Values that pass a test move to the front of their slice: those kept stand first, and those not seen yet where they stood.
use mathlib.Core.Path.{◌≡◌, refl, sym, ap, ◌∙◌}
use mathlib.Core.Bool.{Bool, true, false, cond}
use mathlib.Core.List.{List, [], ◌∷◌, ◌++◌, append-nil}
use Prim.Native.Nat.{ℕ, ◌+◌, ◌≤◌, ◌<◌}
use native.Mathlib.Nat.{add-zero}
use native.Mathlib.Numerals.{add-one}
use native.Mathlib.Omega.{arith}
use lib.ListN.{length, get_or, set, take, drop, length-set}
use lib.Seq.{take_all, take-suc-set, take-set-le, drop-set-lt, get_or-drop, drop-drop}
use lib.Ieee.{Float, nan}
use Rattle.std.specs.Prelude.{filter}
use Rattle.std.proofs.lemmas.List.Elements.{filter_more}

-- after i values, of which c are kept
pub record Moved (test : Float → Bool) (m₀ m : List Float) (i c : ℕ) : Type 0 where
  pub long : length m ≡ length m₀
  pub fewer : c ≤ i
  pub here : take c m ≡ filter test (take i m₀)
  pub rest : drop i m ≡ drop i m₀

pub moved-start : (test : Float → Bool) (m : List Float) → Moved test m m 0 0
moved-start test m = record { long = refl; fewer = omega arith; here = refl; rest = refl }

module _ {test : Float → Bool} {m₀ m : List Float} {i c : ℕ} (now : Moved test m₀ m i c) (inside : i < length m₀) where
  same-value : get_or m i nan ≡ get_or m₀ i nan
  same-value = ap (λ (k : ℕ). get_or m k nan) (sym (add-zero i)) ∙ sym (get_or-drop i m 0 nan) ∙ ap (λ (l : List Float). get_or l 0 nan) now.rest ∙ get_or-drop i m₀ 0 nan ∙ ap (λ (k : ℕ). get_or m₀ k nan) (add-zero i)

  rest_more : (x : Float) → drop (i + 1) (set m c x) ≡ drop (i + 1) m₀
  rest_more x = drop-set-lt (i + 1) m c x (omega (arith, now.fewer)) ∙ sym (drop-drop 1 i m) ∙ ap (drop 1) now.rest ∙ drop-drop 1 i m₀

  kept_more : {t : Bool} → test (get_or m i nan) ≡ t → filter test (take (i + 1) m₀) ≡ filter test (take i m₀) ++ cond t (get_or m i nan ∷ []) []
  kept_more e =
      filter_more test m₀ i nan inside
      ∙ ap (λ (x : Float). filter test (take i m₀) ++ cond (test x) (x ∷ []) []) (sym same-value)
      ∙ ap (λ (t : Bool). filter test (take i m₀) ++ cond t (get_or m i nan ∷ []) []) e

  pub moved-kept : test (get_or m i nan) ≡ true → Moved test m₀ (set m c (get_or m i nan)) (i + 1) (c + 1)
  moved-kept e =
      let x = get_or m i nan in
      record {
        long = length-set m c x ∙ now.long;
        fewer = omega (arith, now.fewer);
        here =
            ap (λ (k : ℕ). take k (set m c x)) (add-one c)
            ∙ take-suc-set m c x (omega (arith, now.fewer, now.long))
            ∙ ap (λ (l : List Float). l ++ (x ∷ [])) now.here
            ∙ sym (kept_more e);
        rest = rest_more x;
      }

  pub moved-passed : test (get_or m i nan) ≡ false → Moved test m₀ (set m c (get_or m i nan)) (i + 1) c
  moved-passed e =
      let x = get_or m i nan in
      record {
        long = length-set m c x ∙ now.long;
        fewer = omega (arith, now.fewer);
        here = take-set-le c m c x (omega arith) ∙ now.here ∙ sym (append-nil (filter test (take i m₀))) ∙ sym (kept_more e);
        rest = rest_more x;
      }

pub moved-end : (test : Float → Bool) (m₀ m : List Float) (i c : ℕ) → Moved test m₀ m i c → length m₀ ≤ i → take c m ≡ filter test m₀
moved-end test m₀ m i c now e = now.here ∙ ap (filter test) (take_all i m₀ e)
