-- Laws of estimates in lent rows: the numbers and the confidences of a group are entries of the rows' own slices.
use Rattle.std.proofs.Common.{◌≡◌, ℕ, zero, suc, ◌+◌, ◌-◌, ◌<◌, ◌≤◌, List, [], ◌∷◌, ◌++◌, map, length, get_or, take, drop, sym, refl, ap, ◌∙◌, subst, arith, length-drop, length-take-le, get_or-drop, get_or-take}
use lib.ListN.{length-map}
use lib.Seq.{take-append-le, drop-append-le}
use lib.Ieee.{Float, nan}
use Rattle.laws.specs.Front.{list}
use Rattle.laws.proofs.Front.{length-list, list_same, map-list, front-own}
use Rattle.keys.specs.Numbers.{key_number, key_at}
use Rattle.keys.proofs.Placed.{numbers-are-keys}
use Rattle.timeline.specs.inside.Estimates.{Columns, estimate_in, estimates_in, Numbered, Found}
use Rattle.timeline.specs.Segments.{segment}
use Rattle.timeline.specs.declared.estimate.Estimate.{Estimate}
use Rattle.majorities.specs.Majority.{majority_of}
use Rattle.groups.specs.Groups.{border, between, numbers_of, confidences_of, mean_confidence, group_of}
use Rattle.groups.specs.inside.Written.{grouped}

-- what stands behind a list does not matter to a part of it
part-of-first : {A : Type 0} (xs ys : List A) (from to : ℕ) → from ≤ to → to ≤ length xs → between (xs ++ ys) from to ≡ between xs from to
part-of-first xs ys from to h k =
    let room : to - from ≤ length (drop from xs) = rw length-drop (omega arith) in
    ap (take (to - from)) (drop-append-le from xs ys (omega arith)) ∙ take-append-le (to - from) (drop from xs) ys room

-- a part of what the first n entries of xs are made of is a part of xs
part-of-rows : {A B : Type 0} (f : B → A) (g : ℕ → B) (xs : List A) (d : A) (n from to : ℕ) → ((i : ℕ) → i < n → f (g i) ≡ get_or xs i d) → from ≤ to → to ≤ n → n ≤ length xs
    → between xs from to ≡ between (map f (list g n)) from to
part-of-rows f g xs d n from to same h k l =
    let own : ℕ → _ = λ (i : ℕ). get_or xs i d in
    let long : to ≤ length (list own n) = rw (length-list own n) k in
    let entries : list own n ≡ map f (list g n) = list_same own (λ (i : ℕ). f (g i)) n (λ i p. sym (same i p)) ∙ sym (map-list f g n) in
    ap (λ (ys : List _). between ys from to) (front-own xs n d l) ∙ part-of-first (list own n) (drop (length (list own n)) xs) from to h long ∙ ap (λ (ys : List _). between ys from to) entries

-- a column of a part is that part of the column
pub map-part : {A B : Type 0} (f : A → B) (n k : ℕ) (xs : List A) → take n (drop k (map f xs)) ≡ map f (take n (drop k xs))
map-part f zero k xs = refl
map-part f (suc n) zero [] = refl
map-part f (suc n) zero (x ∷ xs) = ap (λ (l : List _). f x ∷ l) (map-part f n zero xs)
map-part f (suc n) (suc k) [] = refl
map-part f (suc n) (suc k) (x ∷ xs) = map-part f (suc n) k xs

module _ (rows : Columns) (count : ℕ) (there : Found rows count) where
  -- a group's segment, from the slices
  pub group-in-rows : (from to : ℕ) (start end : Float) → from ≤ to → to ≤ count → grouped start end (between rows.keys from to) (between rows.confidences from to) ≡ group_of (estimates_in rows count) (border from start) (border to end)
  unfolding group_of grouped estimate_in
  group-in-rows from to start end h k =
      let estimates = estimates_in rows count in
      let numbers = part-of-rows (λ (e : Estimate). key_number e.key) (estimate_in rows) rows.keys 0 count from to (λ i p. numbers-are-keys.number_back _ (there.numbered i p)) h k there.keys ∙ map-part (λ (e : Estimate). key_number e.key) (to - from) from estimates in
      let confidences = part-of-rows (λ (e : Estimate). e.confidence) (estimate_in rows) rows.confidences nan count from to (λ i p. refl) h k there.confidences ∙ map-part (λ (e : Estimate). e.confidence) (to - from) from estimates in
      let group = between estimates from to in
      ap (λ (l : List ℕ). grouped start end l (between rows.confidences from to)) numbers
      ∙ ap (grouped start end (numbers_of group)) confidences
      ∙ ap (segment start end (key_at (majority_of (numbers_of group))) (mean_confidence (confidences_of group))) (length-map group (λ (e : Estimate). e.confidence))

-- a part of key numbers
pub part-numbered : (numbers : List ℕ) (from to : ℕ) → from < to → to ≤ length numbers → Numbered numbers to → Numbered (between numbers from to) (length (between numbers from to))
part-numbered numbers from to some within numbered i h =
    let long : length (between numbers from to) ≡ to - from = length-take-le (to - from) (drop from numbers) (rw length-drop (omega arith)) in
    let inside : i < to - from = omega (arith, h, long) in
    subst (λ (n : ℕ). n < 24) (sym (get_or-take (to - from) (drop from numbers) i 0 inside ∙ get_or-drop from numbers i 0)) (numbered (from + i) (omega (arith, inside)))
