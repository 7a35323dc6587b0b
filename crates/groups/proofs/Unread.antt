-- Splits, borders and groups read centre, key and confidence, which an estimate and what is read of it have alike.
use Rattle.std.proofs.Common.{◌≡◌, ℕ, zero, suc, ◌+◌, ◌-◌, List, [], ◌∷◌, ◌++◌, map, length, take, drop, refl}
use lib.ListN.{length-map, get_or-map}
use lib.Ieee.{Float}
use Rattle.timeline.specs.Estimates.{no_estimate}
use Rattle.timeline.specs.inside.Estimates.{as_read}
use Rattle.timeline.specs.declared.estimate.Estimate.{Estimate}
use Rattle.splits.specs.Splits.{splits, border_of}
use Rattle.groups.specs.Groups.{estimate_at, Border, border_after, inner_borders, borders_of, group_of, segments_between, groups_of, first_segments}
use Rattle.groups.specs.Unread.{ShapeUnread}
use Rattle.groups.proofs.Parts.{map-part}

-- a column of which both have the same
column-read : {A : Type 0} (f : Estimate → A) → ((e : Estimate) → f (as_read e) ≡ f e) → (found : List Estimate) → map f (map as_read found) ≡ map f found
column-read f same [] = refl
column-read f same (e ∷ r) = λ k. same e k ∷ column-read f same r k

module _ (found : List Estimate) where
  read_at : (i : ℕ) → estimate_at (map as_read found) i ≡ as_read (estimate_at found i)
  read_at i = get_or-map as_read found i no_estimate

  border-read : (threshold : Float) (j : ℕ) → border_after threshold (map as_read found) j ≡ border_after threshold found j
  unfolding border_after splits border_of
  border-read threshold j = rw (read_at j, read_at (j + 1))

  borders-read : (threshold : Float) (n : ℕ) → inner_borders threshold (map as_read found) n ≡ inner_borders threshold found n
  unfolding inner_borders
  borders-read threshold zero = refl
  borders-read threshold (suc j) = λ k. borders-read threshold j k ++ border-read threshold j k

  group-read : (from to : Border) → group_of (map as_read found) from to ≡ group_of found from to
  unfolding group_of
  group-read from to =
      rw (map-part as_read (to.place - from.place) from.place found, column-read _ (λ e. refl) _, column-read _ (λ e. refl) _, length-map (take (to.place - from.place) (drop from.place found)) as_read)

  between-read : (borders : List Border) → segments_between (map as_read found) borders ≡ segments_between found borders
  unfolding segments_between
  between-read [] = refl
  between-read (b ∷ []) = refl
  between-read (b ∷ c ∷ r) = λ k. group-read b c k ∷ between-read (c ∷ r) k

  groups-read : (threshold duration : Float) → groups_of threshold duration (map as_read found) ≡ groups_of threshold duration found
  unfolding groups_of
  groups-read threshold duration = rw (length-map found as_read, borders-read threshold (length found - 1)) (between-read (borders_of threshold duration found))

pub shape-unread : ShapeUnread
unfolding first_segments
shape-unread threshold duration key confidence found = rw (length-map found as_read, groups-read found threshold duration)
