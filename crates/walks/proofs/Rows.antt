-- A function over a `&mut [T]` and plain data, stated over the elements themselves. While the function runs its borrow is open, so it has a row of elements at (b, o), with no lifetime and no ghost name.
--     Task             the parameters after the slice, the result, what is asked (of the list and the parameters), and what is promised (of these, the result and the list at exit)
--     Change           a task that returns (), and says what the list becomes
--     ended, clauses   the signature and the contract that Rattle makes of such a function
--     Does run t       from the row ys, run leaves a row zs of the same length and returns r, as promised
--     lifts            a run that does the task meets the contract: the borrow is opened before it, and closed after it
--     lowers           a run that meets the contract does the task: the row is lent for a lifetime of the call, and comes back
-- Assumes `Logic`, and of the run that it is monotone under a frame and takes in an update, as each entry of a table does.
use mathlib.Core.Path.{◌≡◌, sym, ap, subst}
use Prim.Native.Nat.{ℕ}
use mathlib.Core.List.{List, [], ◌∷◌}
use lib.ListN.{length}
use seplogic.Ra.Ura.{Ura}
use base.Fraction.{full_share}
use mir.Syntax.{Fn, named}
use mir.Val.{Val}
use base.Logic.{SProp, ent, sep, ex, guard, via, mono_l, id⊢}
use base.Fml.{Fml, Lft, Share, GName, ftrue, flft, fobs, fauth, fobor, flent}
use prog.Wp.{WpFn, Closed}
use prog.Model.{Model}
use prog.Routine.{Callee, Routine, Env}
use types.Logic.{Logic, sem}
use contract.Monad.{Fun, fact, fm→mono}
use contract.Lifetimes.{Lfts}
use contract.Running.{Running, tables, tables_of}
use types.Kit.{Item, ‵, raw, some, given, later, ◌⊛◌, ⋆, ◌$◌, ◌∵◌, !, qed, by, move, keep, drop, use0, use1, use2, use3, split, join, pick, learn, check, fsplit, fjoin, feq_l, suffices, frame, await, updating, now as at_once, show, done}
use types.SemTy.{cells, Arr}
use types.Tokens.{lft_new, lft_end}
use denote.RattleType.{RattleType, owns}
use denote.Exit.{yes}
use denote.Shadow.{pure_i}
use denote.Memory.{mem}
use denote.Laws.{Is, Ises, shows, owns_make}
use denote.Ref.{MutBor}
use denote.Slice.{slice_val, MutSlice, Room, heres, coded_holeys, mut_slice_at, mut_slice_vals, mut_slice_Tells}
use denote.Lend.{Held, lends_slice, slice_back}
use denote.Index.{row, whole_in, whole_out, opens_slice, closes_slice}
use denote.Steps.{nothing, heard, peeks, owned}
use denote.Signature.{plain, mut_slice}
use denote.Triple.Entry.{on_entry}
use denote.Triple.Spec.{Meets, triple_of}
use denote.Triple.Statement.{FmF}
use denote.Triple.Clauses.{Ended, Clauses, closing, lasts, Lasts}
use denote.Triple.Table.{Enters, framed, enters, cited}
use denote.Triple.Walked.{says, needs, Stays, stay_slice, Goes-slice, has_of, walk_of, ends_at, walked, walk_Meets}
use Rattle.walks.proofs.Plain.{Plain, none, slots, kept, stays, kinds, Rest, spells, spelt, flatly, Good, tell, last, fit, had, go, make}

pub record Task (R : RattleType) : Type 2 where
  pub params : List Plain
  pub result : Plain
  pub asks : (κs : Lfts 1) → List R.Denot → Rest 1 κs params → Type 0
  pub promises : (κs : Lfts 1) → List R.Denot → Rest 1 κs params → result.type.Denot → List R.Denot → Type 0

-- of a function that returns (): what the list becomes
pub record Change (R : RattleType) : Type 2 where
  pub params : List Plain
  pub asks : (κs : Lfts 1) → List R.Denot → Rest 1 κs params → Type 0
  pub becomes : (κs : Lfts 1) → List R.Denot → Rest 1 κs params → List R.Denot

abbrev pub task : {R : RattleType} → Change R → Task R
task c = record { params = c.params; result = none; asks = c.asks; promises = λ κs ys a r zs. zs ≡ c.becomes κs ys a }

module _ {R : RattleType} (t : Task R) where
  abbrev ps : List Plain
  ps = t.params

  abbrev pub ended : Ended
  ended = record { signature = record { lifetimes = 1; outlives = []; params = mut_slice 0 tt (λ _. R) ∷ slots 1 ps; result = plain (λ _. t.result.type) }; kept = (yes, kept 1 ps) }

  abbrev stayed : Stays ended.signature.params ended.kept
  stayed = (stay_slice (0 ∷ []) tt (plain (λ _. R)), stays 1 ps)

  module _ {M : Type 1} {𝓤 : Ura M} (𝓛 : Logic 𝓤) where
    open 𝓛 use {H, A}

    abbrev pub clauses : Clauses 𝓤 ended
    clauses κs a = record { ghost = Unit {0}; requires = λ _. fact 𝓤 (t.asks κs a.0.now a.1); ensures = λ _ r e. fact 𝓤 (t.promises κs a.0.now a.1 r e.0.now) }

    -- what a caller's walk asks of the entry of a table that stands for the function
    abbrev pub Knows : Fun 𝓤 → Type 2
    Knows run = Enters 𝓤 H run × Meets 𝓛 ended.signature run (closing 𝓛 ended clauses)

    -- what is known of the list at exit and of the result, whose machine value is v
    abbrev pub Known : (κs : Lfts 1) → List R.Denot → Rest 1 κs ps → Val → t.result.type.Denot → List R.Denot → Type 0
    Known κs ys a v r zs = Is t.result.type r (v ∷ []) × (length zs ≡ length ys) × t.promises κs ys a r zs

    abbrev pub Left : (κs : Lfts 1) → ℕ → ℕ → List R.Denot → Rest 1 κs ps → Val → SProp 𝓤
    Left κs b o ys a v = H.⇛ (ex 𝓤 (λ (r : t.result.type.Denot). ex 𝓤 (λ (zs : List R.Denot). guard 𝓤 (Known κs ys a v r zs) (sem 𝓛 (row R full_share zs b o)))))

    abbrev pub Does : Fun 𝓤 → Type 1
    Does run = (κs : Lfts 1) (b o : ℕ) (ys : List R.Denot) (a : Rest 1 κs ps) → Room R (length ys) → Good 1 κs ps a → t.asks κs ys a
        → ent 𝓤 (sem 𝓛 (row R full_share ys b o)) (run (slice_val (b, o) (length ys) ∷ flatly 1 κs ps a) (Left κs b o ys a))

    module _ where
      -- how a walk ends
      pub leaves : (κs : Lfts 1) (b o : ℕ) (ys : List R.Denot) (a : Rest 1 κs ps) (v : Val) (r : t.result.type.Denot) (zs : List R.Denot) → Known κs ys a v r zs → ent 𝓤 (sem 𝓛 (row R full_share zs b o)) (Left κs b o ys a v)
      leaves κs b o ys a v r zs k = qed 𝓛 (‵ (row R full_share zs b o) ∷ []) ∵ updating ! $ at_once ! $ show ! (λ (s : t.result.type.Denot). ex 𝓤 (λ (ws : List R.Denot). guard 𝓤 (Known κs ys a v s ws) (sem 𝓛 (row R full_share ws b o)))) r $
          show ! (λ (ws : List R.Denot). guard 𝓤 (Known κs ys a v r ws) (sem 𝓛 (row R full_share ws b o))) zs $ check ! k $ done !

      still : (κs : Lfts 1) (a : Rest 1 κs ps) → ent 𝓤 (sem 𝓛 (owns (kinds 1 κs ps) a (spelt 1 κs ps a))) (sem 𝓛 (has_of κs (slots 1 ps) (kept 1 ps) (stays 1 ps) a (last 1 κs ps a) (spelt 1 κs ps a)))
      still κs a = subst (λ (P : Fml). ent 𝓤 (sem 𝓛 (owns (kinds 1 κs ps) a (spelt 1 κs ps a))) (sem 𝓛 P)) (had 1 κs ps a (spelt 1 κs ps a)) (id⊢ 𝓤 _)

      module _ (run : Fun 𝓤) (fm : FmF 𝓤 run) (soaks : Enters 𝓤 H run) where
        module _ (κs : Lfts 1) (q : Share) (b o : ℕ) (γ : GName) (ys : List R.Denot) (a : Rest 1 κs ps) where
          abbrev κ : Lft
          κ = κs.0

          abbrev x : List R.Denot → MutBor (List R.Denot)
          x l = record { ref_ptr = (b, o); ghost_name = γ; now = l }

          abbrev s : Val
          s = slice_val (b, o) (length ys)

          abbrev Post : Val → SProp 𝓤
          Post = (walk_of 𝓛 ended stayed clauses).post ((κs, (q, tt), tt, (x ys, a), (s ∷ [], spelt 1 κs ps a)), tt)

          -- the open borrow, and what the other parameters own
          abbrev Kept : List (Item 𝓤)
          Kept = ‵ (fobor κ q (Held R (length ys) b o γ)) ∷ ‵ (fobs γ ((coded_holeys R).code (heres R ys))) ∷ ‵ (fauth γ ((coded_holeys R).code (heres R ys))) ∷ ‵ (owns (kinds 1 κs ps) a (spelt 1 κs ps a)) ∷ []

          closes : Room R (length ys) → (v : Val) → ent 𝓤 (sep 𝓤 (Left κs b o ys a v) (⋆ 𝓛 Kept)) (Post v)
          closes room v =
              qed 𝓛 (raw (Left κs b o ys a v) ∷ Kept) ∵ suffices ! (H.⇛ (Post v)) (𝓛.laws.⇛_trans _) $ updating ! $
              use1 𝓛 (later (some (λ (r : t.result.type.Denot). some (λ (zs : List R.Denot). given (Known κs ys a v r zs) (‵ (row R full_share zs b o)))))) (id⊢ 𝓤 _) $ await ! tt $ pick ! (λ r. pick ! (λ zs. learn ! (λ k.
              closes_slice ! tt R ys zs k.1 b o $ at_once ! $
              -- [obs; the borrow; the token; what the others own]
              suffices ! _ (ends_at 𝓛 ended stayed clauses ((κs, (q, tt), tt, (x ys, a), (s ∷ [], spelt 1 κs ps a)), tt) v r (zs, last 1 κs ps a) (k.1, fit 1 κs ps a)) $ says ! k.2 $
              nothing ! $ move ! (3 ∷ 0 ∷ []) $ join ! $ frame ! $ fjoin ! $ pure_i ! (mut_slice_at R (x zs) (s ∷ [])) (tt, (tt, tt)) (ap (λ (m : ℕ). slice_val (b, o) m ∷ []) (sym k.1), subst (Room R) (sym k.1) room) $ fjoin ! $
              move ! (1 ∷ []) $ use1 𝓛 (‵ (has_of κs (slots 1 ps) (kept 1 ps) (stays 1 ps) a (last 1 κs ps a) (spelt 1 κs ps a))) (still κs a) $ move ! (1 ∷ 0 ∷ []) $ fjoin ! $ frame ! $ owned ! t.result.type (Is t.result.type) (t.result.makes M 𝓤 𝓛) r _ k.0 $ done !)))

          opens : Room R (length ys) → Good 1 κs ps a → t.asks κs ys a → Does run
              → ent 𝓤 (on_entry 𝓛 ended.signature κs (q, tt) (x ys, a) (s ∷ [], spelt 1 κs ps a)) (run (s ∷ flatly 1 κs ps a) Post)
          opens room good asked does =
              qed 𝓛 ((‵ (flft κ q) ⊛ ‵ ftrue) ∷ ‵ (owns (MutSlice (named 0) κ R ∷ kinds 1 κs ps) (x ys, a) (s ∷ [], spelt 1 κs ps a)) ∷ []) ∵ suffices ! (H.⇛ (run (s ∷ flatly 1 κs ps a) Post)) (soaks (s ∷ flatly 1 κs ps a) Post) $ updating ! $
              move ! (1 ∷ []) $ fsplit ! $ fsplit ! $ move ! (1 ∷ []) $ fsplit ! $ move ! (4 ∷ []) $ split ! $ move ! (2 ∷ 3 ∷ 0 ∷ []) $ opens_slice ! tt R ys b o $ at_once ! $
              -- [the row; the open borrow; obs; auth; true; the slice's fact; what the others own]
              keep ! (0 ∷ 1 ∷ 2 ∷ 3 ∷ 6 ∷ []) $ by !
              (via 𝓤 (sep 𝓤 (run (s ∷ flatly 1 κs ps a) (Left κs b o ys a)) (⋆ 𝓛 Kept)) (mono_l 𝓤 (⋆ 𝓛 Kept) (does κs b o ys a room good asked))
              (fm (s ∷ flatly 1 κs ps a) (Left κs b o ys a) Post (⋆ 𝓛 Kept) (closes room)))

        pub lifts : Does run → Meets 𝓛 ended.signature run (closing 𝓛 ended clauses)
        lifts does = walk_Meets 𝓛 ended stayed (Goes-slice 𝓛 1 0 tt (plain (λ _. R)), go 𝓛 1 ps) clauses run (λ vs. fm→mono 𝓤 (run vs) (fm vs))
            (walked 𝓛 ended stayed clauses run (λ κs. (mut_slice_vals, spells 1 κs ps)) (λ κs. (mut_slice_Tells (named 0) κs.0 R, tell 1 κs ps))
            (λ κs qs bounds a g are. needs 𝓤 (t.asks κs a.0.now a.1) _ (λ asked. opens κs qs.0 a.0.ref_ptr.0 a.0.ref_ptr.1 a.0.ghost_name a.0.now a.1 are.0.0.1 are.1 asked does)))

        -- ---- the row is lent for a lifetime ν of the call, under the name γ
        module _ (met : Meets 𝓛 ended.signature run (closing 𝓛 ended clauses)) (b o : ℕ) (ys : List R.Denot) (room : Room R (length ys)) (a : (κs : Lfts 1) → Rest 1 κs ps) (good : (κs : Lfts 1) → Good 1 κs ps (a κs)) (asked : (κs : Lfts 1) → t.asks κs ys (a κs))
            (Q : t.result.type.Denot → List R.Denot → Type 0) (so : (κs : Lfts 1) (r : t.result.type.Denot) (zs : List R.Denot) → t.promises κs ys (a κs) r zs → Q r zs) where
          abbrev Got : Val → SProp 𝓤
          Got v = H.⇛ (ex 𝓤 (λ (r : t.result.type.Denot). ex 𝓤 (λ (zs : List R.Denot). guard 𝓤 (Is t.result.type r (v ∷ []) × (length zs ≡ length ys) × Q r zs) (sem 𝓛 (row R full_share zs b o)))))

          module _ (ν : ℕ) (γ : GName) where
            abbrev κs : Lfts 1
            κs = (ν ∷ [], tt)

            abbrev x' : MutBor (List R.Denot)
            x' = record { ref_ptr = (b, o); ghost_name = γ; now = ys }

            abbrev s' : Val
            s' = slice_val (b, o) (length ys)

            abbrev y : (triple_of 𝓛 ended.signature (closing 𝓛 ended clauses)).Ghost
            y = ((κs, (full_share, tt), tt, (x', a κs), (s' ∷ [], spelt 1 κs ps (a κs))), tt)

            goes : ent 𝓤 (⋆ 𝓛 (‵ ((MutSlice (named 0) (ν ∷ []) R).own_val x' (s' ∷ [])) ∷ ‵ (flft (ν ∷ []) full_share) ∷ [])) ((triple_of 𝓛 ended.signature (closing 𝓛 ended clauses)).pre y)
            goes = qed 𝓛 (‵ ((MutSlice (named 0) (ν ∷ []) R).own_val x' (s' ∷ [])) ∷ ‵ (flft (ν ∷ []) full_share) ∷ []) ∵ says ! (asked κs) $ nothing ! $ move ! (2 ∷ 0 ∷ []) $ join ! $ frame ! $
                use0 𝓛 (‵ (owns (kinds 1 κs ps) (a κs) (spelt 1 κs ps (a κs)))) (owns_make 𝓛 (kinds 1 κs ps) (Ises (kinds 1 κs ps)) (make 𝓛 1 κs ps) (a κs) (spelt 1 κs ps (a κs)) (good κs)) $ move ! (1 ∷ 0 ∷ []) $ fjoin ! $ done !

            back : (v : Val) → ent 𝓤 (⋆ 𝓛 (raw ((triple_of 𝓛 ended.signature (closing 𝓛 ended clauses)).post y v) ∷ ‵ (flent (ν ∷ []) (Held R (length ys) b o γ)) ∷ [])) (Got v)
            back v =
                qed 𝓛 (raw ((triple_of 𝓛 ended.signature (closing 𝓛 ended clauses)).post y v) ∷ ‵ (flent (ν ∷ []) (Held R (length ys) b o γ)) ∷ []) ∵ updating ! $
                use1 𝓛 (later (some (λ (r : t.result.type.Denot). ((‵ (flft (ν ∷ []) full_share) ⊛ ‵ ftrue) ⊛ ‵ (t.result.type.own_val r (v ∷ []))) ⊛ some (λ (ws : Lasts ended κs (x', a κs)). ‵ (lasts ended κs (x', a κs) ws) ⊛ raw (fact 𝓤 (t.promises κs ys (a κs) r ws.0)))))) (id⊢ 𝓤 _) $ await ! tt $ pick ! (λ r.
                split ! $ move ! (1 ∷ []) $ pick ! (λ ws. split ! $ move ! (1 ∷ []) $ heard ! (t.promises κs ys (a κs) r ws.0) (λ e.
                -- [what is said of the last values; the tokens and the result; the lender's part]
                fsplit ! $ fsplit ! $ fsplit ! $ move ! (2 ∷ []) $ drop ! $ move ! (1 ∷ []) $ feq_l ! (λ l. move ! (2 ∷ []) $ split ! $ move ! (1 ∷ []) $ peeks ! t.result.type (Is t.result.type) (shows 𝓛 t.result.type) r (v ∷ []) (λ is.
                move ! (1 ∷ []) $ split ! $ lft_end ! tt $ move ! (0 ∷ 5 ∷ 3 ∷ []) $
                use3 𝓛 (later (‵ ((Arr (mem R) (length ys)).own_at ws.0 b o))) (slice_back 𝓛 R (ν ∷ []) γ ws.0 (length ys) b o) $ await ! tt $ fsplit ! $ drop ! $ use1 𝓛 (‵ (row R full_share ws.0 b o)) (whole_out 𝓛 R ws.0 b o) $ at_once ! $
                show ! (λ (r : t.result.type.Denot). ex 𝓤 (λ (zs : List R.Denot). guard 𝓤 (Is t.result.type r (v ∷ []) × (length zs ≡ length ys) × Q r zs) (sem 𝓛 (row R full_share zs b o)))) r $
                show ! (λ (zs : List R.Denot). guard 𝓤 (Is t.result.type r (v ∷ []) × (length zs ≡ length ys) × Q r zs) (sem 𝓛 (row R full_share zs b o))) ws.0 $ check ! (is, l, so κs r ws.0 e) $ keep ! (0 ∷ []) $ done !)))))

          pub lowers : (vs : List Val) → ((κs : Lfts 1) → flatly 1 κs ps (a κs) ≡ vs) → ent 𝓤 (sem 𝓛 (row R full_share ys b o)) (run (slice_val (b, o) (length ys) ∷ vs) Got)
          lowers vs same =
              qed 𝓛 (‵ (row R full_share ys b o) ∷ []) ∵ suffices ! (H.⇛ (run (slice_val (b, o) (length ys) ∷ vs) Got)) (soaks (slice_val (b, o) (length ys) ∷ vs) Got) $ updating ! $
              lft_new ! tt (λ ν. move ! (1 ∷ []) $ use1 𝓛 (‵ (cells (mem R) ys b o)) (whole_in 𝓛 R ys b o) $
              use1 𝓛 (later (some (λ (γ : GName). ‵ ((MutSlice (named 0) (ν ∷ []) R).own_val (x' ν γ) (s' ν γ ∷ [])) ⊛ ‵ (flent (ν ∷ []) (Held R (length ys) b o γ))))) (lends_slice 𝓛 R (named 0) (ν ∷ []) ys b o room) $ await ! tt $ pick ! (λ γ. split ! $
              move ! (0 ∷ 2 ∷ []) $ use2 𝓛 (raw ((triple_of 𝓛 ended.signature (closing 𝓛 ended clauses)).pre (y ν γ))) (goes ν γ) $ at_once ! $ by !
              (subst (λ (us : List Val). ent 𝓤 (⋆ 𝓛 (raw ((triple_of 𝓛 ended.signature (closing 𝓛 ended clauses)).pre (y ν γ)) ∷ ‵ (flent (ν ∷ []) (Held R (length ys) b o γ)) ∷ [])) (run (slice_val (b, o) (length ys) ∷ us) Got)) (same (κs ν γ))
              (via 𝓤 _ (mono_l 𝓤 (A.lent (ν ∷ []) (Held R (length ys) b o γ)) (met (y ν γ))) (fm _ _ Got (A.lent (ν ∷ []) (Held R (length ys) b o γ)) (back ν γ))))))

  -- a walk of the MIR that does the task proves the function
  module _ {M : Type 1} {𝓤 : Ura M} (𝓛 : Logic 𝓤) (𝓜 : Model 𝓤 𝓛.H) (𝓡 : Running 𝓤 𝓛.H 𝓜) (γ : Env) (k : Callee) (e : Fn) where
    open 𝓛 use {H}

    pub proves : Closed 𝓤 H (tables 𝓤 H 𝓜 𝓡 γ).C (tables 𝓤 H 𝓜 𝓡 γ).Λ k e → Does 𝓛 (WpFn 𝓤 H (tables_of 𝓤 H 𝓜 (tables 𝓤 H 𝓜 𝓡 γ)).C (tables_of 𝓤 H 𝓜 (tables 𝓤 H 𝓜 𝓡 γ)).Λ e)
        → Meets 𝓛 ended.signature ((tables 𝓤 H 𝓜 𝓡 γ).C k) (closing 𝓛 ended (clauses 𝓛))
    unfolding tables_of
    proves closed walk = lifts 𝓛 ((tables 𝓤 H 𝓜 𝓡 γ).C k) (framed 𝓤 H 𝓜 (tables 𝓤 H 𝓜 𝓡 γ) k) (enters 𝓤 H 𝓜 (tables 𝓤 H 𝓜 𝓡 γ) k)
        (λ κs b o ys a room good asked. via 𝓤 _ (walk κs b o ys a room good asked) (closed _ _))

  -- the function's theorem gives it
  pub knows : {M : Type 1} {𝓤 : Ura M} (𝓛 : Logic 𝓤) (𝓜 : Model 𝓤 𝓛.H) (𝓡 : Running 𝓤 𝓛.H 𝓜) (γ : Env) (f : Callee) (r : Routine) → γ f ≡ r → Meets 𝓛 ended.signature (𝓡.run r) (closing 𝓛 ended (clauses 𝓛))
      → Knows 𝓛 ((tables_of 𝓤 𝓛.H 𝓜 (tables 𝓤 𝓛.H 𝓜 𝓡 γ)).C f)
  unfolding tables_of
  knows {𝓤 = 𝓤} 𝓛 𝓜 𝓡 γ f r is met = (enters 𝓤 𝓛.H 𝓜 (tables 𝓤 𝓛.H 𝓜 𝓡 γ) f, cited 𝓤 𝓛.H (triple_of 𝓛 ended.signature (closing 𝓛 ended (clauses 𝓛))) 𝓜 𝓡 γ f r is met)
