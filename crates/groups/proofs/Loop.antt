-- Groups as a loop cuts them off, an estimate a turn: what is cut off so far lies between the borders met so far, so the loop gives the segments between all borders.
use Rattle.std.proofs.Common.{◌≡◌, ℕ, suc, ◌+◌, ◌-◌, Bool, true, false, cond, List, [], ◌∷◌, ◌++◌, length, sym, refl, ap, ◌∙◌, append-nil}
use lib.Ieee.{Float}
use Rattle.laws.specs.Turns.{turns}
use Rattle.laws.specs.Values.{plus_zero}
use Rattle.laws.proofs.Turns.{turns-keep}
use Rattle.timeline.specs.declared.estimate.Estimate.{Estimate}
use Rattle.timeline.specs.declared.segment.Segment.{Segment}
use Rattle.splits.specs.Splits.{splits, border_of}
use Rattle.groups.specs.Groups.{estimate_at, Border, border, border_after, inner_borders, group_of, segments_between, groups_of}

-- the segment of the estimates from `from` up to `to`
abbrev pub group_from : List Estimate → ℕ → ℕ → Float → Float → Segment
group_from found from to start end = group_of found (border from start) (border to end)

-- the segments cut off so far, and where the group that is being gathered starts: by estimate and in seconds
pub record Cutting : Type 0 where
  pub done : List Segment
  pub from : ℕ
  pub start : Float

-- the same, from its parts
abbrev pub cutting : List Segment → ℕ → Float → Cutting
cutting done from start = record { done = done; from = from; start = start }

-- between estimates j and j + 1
unfoldable pub cut_turn : Float → List Estimate → ℕ → Cutting → Cutting
cut_turn threshold found j c =
    let end = border_of (estimate_at found j) (estimate_at found (j + 1)) in
    cond (splits threshold (estimate_at found j) (estimate_at found (j + 1)))
    (cutting (c.done ++ (group_from found c.from (j + 1) c.start end ∷ [])) (j + 1) end) c

-- the last group ends with the track
abbrev pub closed : List Estimate → Float → Cutting → List Segment
closed found duration c = c.done ++ (group_from found c.from (length found) c.start duration ∷ [])

-- what the loop has cut off after n turns
abbrev pub cut_at : Float → List Estimate → ℕ → Cutting
cut_at threshold found n = turns (cut_turn threshold found) n 0 (cutting [] 0 plus_zero)

-- one more border behind them
between_more : (found : List Estimate) (bs : List Border) (b c : Border) → segments_between found ((bs ++ (b ∷ [])) ++ (c ∷ [])) ≡ segments_between found (bs ++ (b ∷ [])) ++ (group_of found b c ∷ [])
unfolding segments_between
between_more found [] b c = refl
between_more found (x ∷ []) b c = refl
between_more found (x ∷ y ∷ r) b c = ap (λ (l : List Segment). group_of found x y ∷ l) (between_more found (y ∷ r) b c)

module _ (threshold : Float) (found : List Estimate) where
  abbrev last : Cutting → Border
  last c = border c.from c.start

  -- the borders met so far, of which the last is where the group that is being gathered starts
  record Met (borders : List Border) (c : Cutting) : Type 0 where
    before : List Border
    met : borders ≡ before ++ (last c ∷ [])
    done : c.done ≡ segments_between found (before ++ (last c ∷ []))

  met-more : (splitting : Bool) (b : Border) (borders : List Border) (c : Cutting) → Met borders c
      → Met (borders ++ cond splitting (b ∷ []) []) (cond splitting (cutting (c.done ++ (group_of found (last c) b ∷ [])) b.place b.time) c)
  met-more true b borders c m =
      record {
        before = m.before ++ (last c ∷ []);
        met = ap (λ (l : List Border). l ++ (b ∷ [])) m.met;
        done = ap (λ (l : List Segment). l ++ (group_of found (last c) b ∷ [])) m.done ∙ sym (between_more found m.before (last c) b);
      }
  met-more false b borders c m = record { before = m.before; met = append-nil borders ∙ m.met; done = m.done }

  met_start : Met (border 0 plus_zero ∷ inner_borders threshold found 0) (cutting [] 0 plus_zero)
  unfolding inner_borders segments_between
  met_start = record { before = []; met = refl; done = refl }

  met-turn : (j : ℕ) (c : Cutting) → Met (border 0 plus_zero ∷ inner_borders threshold found j) c → Met (border 0 plus_zero ∷ inner_borders threshold found (suc j)) (cut_turn threshold found j c)
  unfolding inner_borders border_after cut_turn
  met-turn j c m =
      met-more (splits threshold (estimate_at found j) (estimate_at found (j + 1))) (border (j + 1) (border_of (estimate_at found j) (estimate_at found (j + 1)))) (border 0 plus_zero ∷ inner_borders threshold found j) c m

  met_all : (n : ℕ) → Met (border 0 plus_zero ∷ inner_borders threshold found n) (cut_at threshold found n)
  met_all =
      turns-keep (λ (n : ℕ) (c : Cutting). Met (border 0 plus_zero ∷ inner_borders threshold found n) c) (cut_turn threshold found) (cutting [] 0 plus_zero) met_start met-turn

  pub groups-loop : (duration : Float) → groups_of threshold duration found ≡ closed found duration (cut_at threshold found (length found - 1))
  unfolding groups_of
  groups-loop duration =
      let c = cut_at threshold found (length found - 1) in
      let m = met_all (length found - 1) in
      let end = border (length found) duration in
      ap (λ (l : List Border). segments_between found (l ++ (end ∷ []))) m.met
      ∙ between_more found m.before (last c) end
      ∙ ap (λ (l : List Segment). l ++ (group_of found (last c) end ∷ [])) (sym m.done)
