-- `Rows.antt` for a `&[T]`: a function that looks at a row of elements, of which it has some share q.
--     Look             the parameters after the slice, the result, what is asked, and what is promised of the result
--     Sees run t       from a share q of the row ys, run leaves that share as it was, and returns r as promised
--     lifts, lowers    a run that sees meets the contract, and a run that meets the contract sees
-- T is Copy.
use mathlib.Core.Path.{◌≡◌, refl, subst}
use Prim.Native.Nat.{ℕ}
use mathlib.Core.List.{List, [], ◌∷◌}
use lib.ListN.{length}
use seplogic.Ra.Ura.{Ura}
use base.Fraction.{full_share}
use mir.Syntax.{Fn, named}
use mir.Val.{Val}
use base.Logic.{SProp, ent, sep, ex, guard, via, mono_l, id⊢}
use base.Fml.{Fml, Lft, Share, ftrue, flft, fhide, flent}
use prog.Wp.{WpFn, Closed}
use prog.Model.{Model}
use prog.Routine.{Callee, Routine, Env}
use types.Logic.{Logic, sem}
use contract.Monad.{Fun, fact, fm→mono}
use contract.Lifetimes.{Lfts}
use contract.Running.{Running, tables, tables_of}
use types.Kit.{Item, ‵, raw, some, given, later, ◌⊛◌, ⋆, ◌$◌, ◌∵◌, !, qed, by, move, keep, drop, use0, use1, use2, split, join, pick, learn, check, fsplit, fjoin, feq_i, suffices, frame, await, updating, now as at_once, show, done}
use types.Share.{arr_parts}
use types.Tokens.{lft_new, lft_end, lent_back}
use denote.RattleType.{RattleType, owns}
use denote.Exit.{yes}
use denote.Memory.{shares}
use denote.Copied.{Copied}
use denote.Laws.{Is, Ises, shows, owns_make}
use denote.Ref.{Bor}
use denote.Opens.{Shut}
use denote.Slice.{elements_shared, slice_val, ShrSlice, Room, shr_slice_at, shr_slice_vals, shr_slice_Tells}
use denote.Lend.{lends_shr_slice}
use denote.Index.{row, looks_slice, shuts_slice}
use denote.Steps.{nothing, heard, peeks, owned}
use denote.Signature.{plain, shr_slice}
use denote.Triple.Entry.{on_entry}
use denote.Triple.Spec.{Meets, triple_of}
use denote.Triple.Statement.{FmF}
use denote.Triple.Clauses.{Ended, Clauses, closing, lasts, Lasts}
use denote.Triple.Table.{Enters, framed, enters, cited}
use denote.Triple.Walked.{says, needs, Stays, stay_none_slice, Goes-none_slice, has_of, walk_of, ends_at, walked, walk_Meets}
use Rattle.walks.proofs.Plain.{Plain, slots, kept, stays, kinds, Rest, spells, spelt, flatly, Good, tell, last, fit, had, go, make}

pub record Look (R : RattleType) : Type 2 where
  pub params : List Plain
  pub result : Plain
  pub asks : (κs : Lfts 1) → List R.Denot → Rest 1 κs params → Type 0
  pub promises : (κs : Lfts 1) → List R.Denot → Rest 1 κs params → result.type.Denot → Type 0

module _ {R : RattleType} (t : Look R) where
  abbrev ps : List Plain
  ps = t.params

  abbrev pub ended : Ended
  ended = record { signature = record { lifetimes = 1; outlives = []; params = shr_slice 0 tt (λ _. R) ∷ slots 1 ps; result = plain (λ _. t.result.type) }; kept = (yes, kept 1 ps) }

  abbrev stayed : Stays ended.signature.params ended.kept
  stayed = (stay_none_slice (0 ∷ []) tt (plain (λ _. R)) yes, stays 1 ps)

  module _ {M : Type 1} {𝓤 : Ura M} (𝓛 : Logic 𝓤) where
    open 𝓛 use {H, A}

    abbrev pub clauses : Clauses 𝓤 ended
    clauses κs a = record { ghost = Unit {0}; requires = λ _. fact 𝓤 (t.asks κs a.0.now a.1); ensures = λ _ r e. fact 𝓤 (t.promises κs a.0.now a.1 r) }

    -- what a caller's walk asks of the entry of a table that stands for the function
    abbrev pub Knows : Fun 𝓤 → Type 2
    Knows run = Enters 𝓤 H run × Meets 𝓛 ended.signature run (closing 𝓛 ended clauses)

    abbrev pub Left : (κs : Lfts 1) → Share → ℕ → ℕ → List R.Denot → Rest 1 κs ps → Val → SProp 𝓤
    Left κs q b o ys a v = H.⇛ (ex 𝓤 (λ (r : t.result.type.Denot). guard 𝓤 (Is t.result.type r (v ∷ []) × t.promises κs ys a r) (sem 𝓛 (row R q ys b o))))

    abbrev pub Sees : Fun 𝓤 → Type 1
    Sees run = (κs : Lfts 1) (q : Share) (b o : ℕ) (ys : List R.Denot) (a : Rest 1 κs ps) → Room R (length ys) → Good 1 κs ps a → t.asks κs ys a
        → ent 𝓤 (sem 𝓛 (row R q ys b o)) (run (slice_val (b, o) (length ys) ∷ flatly 1 κs ps a) (Left κs q b o ys a))

    module _ where
      -- how a walk ends
      pub leaves : (κs : Lfts 1) (q : Share) (b o : ℕ) (ys : List R.Denot) (a : Rest 1 κs ps) (v : Val) (r : t.result.type.Denot) → Is t.result.type r (v ∷ []) × t.promises κs ys a r → ent 𝓤 (sem 𝓛 (row R q ys b o)) (Left κs q b o ys a v)
      leaves κs q b o ys a v r k = qed 𝓛 (‵ (row R q ys b o) ∷ []) ∵ updating ! $ at_once ! $ show ! (λ (s : t.result.type.Denot). guard 𝓤 (Is t.result.type s (v ∷ []) × t.promises κs ys a s) (sem 𝓛 (row R q ys b o))) r $ check ! k $ done !

      still : (κs : Lfts 1) (a : Rest 1 κs ps) → ent 𝓤 (sem 𝓛 (owns (kinds 1 κs ps) a (spelt 1 κs ps a))) (sem 𝓛 (has_of κs (slots 1 ps) (kept 1 ps) (stays 1 ps) a (last 1 κs ps a) (spelt 1 κs ps a)))
      still κs a = subst (λ (P : Fml). ent 𝓤 (sem 𝓛 (owns (kinds 1 κs ps) a (spelt 1 κs ps a))) (sem 𝓛 P)) (had 1 κs ps a (spelt 1 κs ps a)) (id⊢ 𝓤 _)

      module _ (run : Fun 𝓤) (fm : FmF 𝓤 run) (soaks : Enters 𝓤 H run) where
        module _ (κs : Lfts 1) (q : Share) (b o : ℕ) (ys : List R.Denot) (a : Rest 1 κs ps) where
          abbrev κ : Lft
          κ = κs.0

          abbrev x : Bor (List R.Denot)
          x = record { ref_ptr = (b, o); now = ys }

          abbrev s : Val
          s = slice_val (b, o) (length ys)

          abbrev Post : Val → SProp 𝓤
          Post = (walk_of 𝓛 ended stayed clauses).post ((κs, (q, tt), tt, (x, a), (s ∷ [], spelt 1 κs ps a)), tt)

          -- the open share, and what the slice and the other parameters own
          abbrev Kept : Share → List (Item 𝓤)
          Kept q' = Shut 𝓛 κ q (row R q' ys b o) ∷ ‵ (fhide (elements_shared R ys b o κ)) ∷ ‵ (shr_slice_at R x (s ∷ [])) ∷ ‵ (owns (kinds 1 κs ps) a (spelt 1 κs ps a)) ∷ []

          shuts : (q' : Share) (v : Val) → ent 𝓤 (⋆ 𝓛 (raw (Left κs q' b o ys a v) ∷ Kept q')) (Post v)
          shuts q' v =
              qed 𝓛 (raw (Left κs q' b o ys a v) ∷ Kept q') ∵ suffices ! (H.⇛ (Post v)) (𝓛.laws.⇛_trans _) $ updating ! $
              use1 𝓛 (later (some (λ (r : t.result.type.Denot). given (Is t.result.type r (v ∷ []) × t.promises κs ys a r) (‵ (row R q' ys b o))))) (id⊢ 𝓤 _) $ await ! tt $ pick ! (λ r. learn ! (λ k.
              shuts_slice ! tt R q' ys b o $ at_once ! $
              -- [the token; what the slice's elements hold; the slice's fact; what the others own]
              suffices ! _ (ends_at 𝓛 ended stayed clauses ((κs, (q, tt), tt, (x, a), (s ∷ [], spelt 1 κs ps a)), tt) v r (tt, last 1 κs ps a) (tt, fit 1 κs ps a)) $ says ! k.1 $
              nothing ! $ move ! (1 ∷ 0 ∷ []) $ join ! $ frame ! $ move ! (1 ∷ 0 ∷ []) $ fjoin ! $
              move ! (1 ∷ []) $ use1 𝓛 (‵ (has_of κs (slots 1 ps) (kept 1 ps) (stays 1 ps) a (last 1 κs ps a) (spelt 1 κs ps a))) (still κs a) $ move ! (1 ∷ 0 ∷ []) $ fjoin ! $ frame ! $ owned ! t.result.type (Is t.result.type) (t.result.makes M 𝓤 𝓛) r _ k.0 $ done !))

          module _ (copied : Copied 𝓛 R) where
            looks : Room R (length ys) → Good 1 κs ps a → t.asks κs ys a → Sees run
                → ent 𝓤 (on_entry 𝓛 ended.signature κs (q, tt) (x, a) (s ∷ [], spelt 1 κs ps a)) (run (s ∷ flatly 1 κs ps a) Post)
            looks room good asked sees =
                qed 𝓛 ((‵ (flft κ q) ⊛ ‵ ftrue) ∷ ‵ (owns (ShrSlice (named 0) κ R ∷ kinds 1 κs ps) (x, a) (s ∷ [], spelt 1 κs ps a)) ∷ []) ∵ suffices ! (H.⇛ (run (s ∷ flatly 1 κs ps a) Post)) (soaks (s ∷ flatly 1 κs ps a) Post) $ updating ! $
                move ! (1 ∷ []) $ fsplit ! $ fsplit ! $ move ! (3 ∷ []) $ split ! $ move ! (3 ∷ 0 ∷ []) $ looks_slice ! tt R copied ys b o (λ q'. at_once ! $
                -- [the row; the token's way back; what the slice's elements hold; true; the slice's fact; what the others own]
                keep ! (0 ∷ 1 ∷ 2 ∷ 4 ∷ 5 ∷ []) $ by !
                (via 𝓤 (sep 𝓤 (run (s ∷ flatly 1 κs ps a) (Left κs q' b o ys a)) (⋆ 𝓛 (Kept q'))) (mono_l 𝓤 (⋆ 𝓛 (Kept q')) (sees κs q' b o ys a room good asked))
                (fm (s ∷ flatly 1 κs ps a) (Left κs q' b o ys a) Post (⋆ 𝓛 (Kept q')) (shuts q'))))

        pub lifts : Copied 𝓛 R → Sees run → Meets 𝓛 ended.signature run (closing 𝓛 ended clauses)
        lifts copied sees = walk_Meets 𝓛 ended stayed (Goes-none_slice 𝓛 1 (0 ∷ []) tt (plain (λ _. R)) yes, go 𝓛 1 ps) clauses run (λ vs. fm→mono 𝓤 (run vs) (fm vs))
            (walked 𝓛 ended stayed clauses run (λ κs. (shr_slice_vals, spells 1 κs ps)) (λ κs. (shr_slice_Tells (named 0) κs.0 R, tell 1 κs ps))
            (λ κs qs bounds a g are. needs 𝓤 (t.asks κs a.0.now a.1) _ (λ asked. looks κs qs.0 a.0.ref_ptr.0 a.0.ref_ptr.1 a.0.now a.1 copied are.0.0.1 are.1 asked sees)))

        -- ---- the share is lent for a lifetime ν of the call
        module _ (copied : Copied 𝓛 R) (met : Meets 𝓛 ended.signature run (closing 𝓛 ended clauses)) (q : Share) (b o : ℕ) (ys : List R.Denot) (room : Room R (length ys)) (a : (κs : Lfts 1) → Rest 1 κs ps) (good : (κs : Lfts 1) → Good 1 κs ps (a κs)) (asked : (κs : Lfts 1) → t.asks κs ys (a κs))
            (Q : t.result.type.Denot → Type 0) (so : (κs : Lfts 1) (r : t.result.type.Denot) → t.promises κs ys (a κs) r → Q r) where
          abbrev Got : Val → SProp 𝓤
          Got v = H.⇛ (ex 𝓤 (λ (r : t.result.type.Denot). guard 𝓤 (Is t.result.type r (v ∷ []) × Q r) (sem 𝓛 (row R q ys b o))))

          abbrev part : Fml
          part = (arr_parts (shares R) (length ys)).part q ys b o

          module _ (ν : ℕ) where
            abbrev κs : Lfts 1
            κs = (ν ∷ [], tt)

            abbrev x' : Bor (List R.Denot)
            x' = record { ref_ptr = (b, o); now = ys }

            abbrev s' : Val
            s' = slice_val (b, o) (length ys)

            abbrev y : (triple_of 𝓛 ended.signature (closing 𝓛 ended clauses)).Ghost
            y = ((κs, (full_share, tt), tt, (x', a κs), (s' ∷ [], spelt 1 κs ps (a κs))), tt)

            goes : ent 𝓤 (⋆ 𝓛 (‵ ((ShrSlice (named 0) (ν ∷ []) R).own_val x' (s' ∷ [])) ∷ ‵ (flft (ν ∷ []) full_share) ∷ [])) ((triple_of 𝓛 ended.signature (closing 𝓛 ended clauses)).pre y)
            goes = qed 𝓛 (‵ ((ShrSlice (named 0) (ν ∷ []) R).own_val x' (s' ∷ [])) ∷ ‵ (flft (ν ∷ []) full_share) ∷ []) ∵ says ! (asked κs) $ nothing ! $ move ! (2 ∷ 0 ∷ []) $ join ! $ frame ! $
                use0 𝓛 (‵ (owns (kinds 1 κs ps) (a κs) (spelt 1 κs ps (a κs)))) (owns_make 𝓛 (kinds 1 κs ps) (Ises (kinds 1 κs ps)) (make 𝓛 1 κs ps) (a κs) (spelt 1 κs ps (a κs)) (good κs)) $ move ! (1 ∷ 0 ∷ []) $ fjoin ! $ done !

            back : (v : Val) → ent 𝓤 (⋆ 𝓛 (raw ((triple_of 𝓛 ended.signature (closing 𝓛 ended clauses)).post y v) ∷ ‵ (flent (ν ∷ []) part) ∷ [])) (Got v)
            back v =
                qed 𝓛 (raw ((triple_of 𝓛 ended.signature (closing 𝓛 ended clauses)).post y v) ∷ ‵ (flent (ν ∷ []) part) ∷ []) ∵ updating ! $
                use1 𝓛 (later (some (λ (r : t.result.type.Denot). ((‵ (flft (ν ∷ []) full_share) ⊛ ‵ ftrue) ⊛ ‵ (t.result.type.own_val r (v ∷ []))) ⊛ some (λ (ws : Lasts ended κs (x', a κs)). ‵ (lasts ended κs (x', a κs) ws) ⊛ raw (fact 𝓤 (t.promises κs ys (a κs) r)))))) (id⊢ 𝓤 _) $ await ! tt $ pick ! (λ r.
                split ! $ move ! (1 ∷ []) $ pick ! (λ ws. split ! $ move ! (1 ∷ []) $ heard ! (t.promises κs ys (a κs) r) (λ e.
                -- [what is said of the last values; the tokens and the result; the lender's part]
                drop ! $ split ! $ move ! (1 ∷ []) $ peeks ! t.result.type (Is t.result.type) (shows 𝓛 t.result.type) r (v ∷ []) (λ is.
                drop ! $ split ! $ lft_end ! tt $ move ! (0 ∷ 2 ∷ []) $ lent_back ! tt $ fsplit ! $ drop ! $ at_once ! $
                show ! (λ (r : t.result.type.Denot). guard 𝓤 (Is t.result.type r (v ∷ []) × Q r) (sem 𝓛 (row R q ys b o))) r $ check ! (is, so κs r e) $ keep ! (0 ∷ []) $ done !))))

          pub lowers : (vs : List Val) → ((κs : Lfts 1) → flatly 1 κs ps (a κs) ≡ vs) → ent 𝓤 (sem 𝓛 (row R q ys b o)) (run (slice_val (b, o) (length ys) ∷ vs) Got)
          lowers vs same =
              qed 𝓛 (‵ (row R q ys b o) ∷ []) ∵ suffices ! (H.⇛ (run (slice_val (b, o) (length ys) ∷ vs) Got)) (soaks (slice_val (b, o) (length ys) ∷ vs) Got) $ updating ! $
              lft_new ! tt (λ ν. move ! (1 ∷ []) $ feq_i ! ℕ (length ys) (length ys) refl $ fjoin ! $
              use2 𝓛 (later ((‵ ((ShrSlice (named 0) (ν ∷ []) R).own_val (x' ν) (s' ν ∷ [])) ⊛ ‵ (flent (ν ∷ []) part)) ⊛ ‵ (flft (ν ∷ []) full_share))) (lends_shr_slice 𝓛 R (named 0) (ν ∷ []) q ys b o room (ν ∷ []) (copied.shares q (ν ∷ [])) ((ν ∷ [], full_share) ∷ []) (λ _ m. m) (λ _ m. m)) $ await ! tt $ split ! $ split ! $
              move ! (0 ∷ 2 ∷ []) $ use2 𝓛 (raw ((triple_of 𝓛 ended.signature (closing 𝓛 ended clauses)).pre (y ν))) (goes ν) $ at_once ! $ by !
              (subst (λ (us : List Val). ent 𝓤 (⋆ 𝓛 (raw ((triple_of 𝓛 ended.signature (closing 𝓛 ended clauses)).pre (y ν)) ∷ ‵ (flent (ν ∷ []) part) ∷ [])) (run (slice_val (b, o) (length ys) ∷ us) Got)) (same (κs ν))
              (via 𝓤 _ (mono_l 𝓤 (A.lent (ν ∷ []) part) (met (y ν))) (fm _ _ Got (A.lent (ν ∷ []) part) (back ν)))))

  -- a walk of the MIR that sees proves the function
  module _ {M : Type 1} {𝓤 : Ura M} (𝓛 : Logic 𝓤) (𝓜 : Model 𝓤 𝓛.H) (𝓡 : Running 𝓤 𝓛.H 𝓜) (γ : Env) (k : Callee) (e : Fn) where
    open 𝓛 use {H}

    pub proves : Closed 𝓤 H (tables 𝓤 H 𝓜 𝓡 γ).C (tables 𝓤 H 𝓜 𝓡 γ).Λ k e → Copied 𝓛 R → Sees 𝓛 (WpFn 𝓤 H (tables_of 𝓤 H 𝓜 (tables 𝓤 H 𝓜 𝓡 γ)).C (tables_of 𝓤 H 𝓜 (tables 𝓤 H 𝓜 𝓡 γ)).Λ e)
        → Meets 𝓛 ended.signature ((tables 𝓤 H 𝓜 𝓡 γ).C k) (closing 𝓛 ended (clauses 𝓛))
    unfolding tables_of
    proves closed copied walk = lifts 𝓛 ((tables 𝓤 H 𝓜 𝓡 γ).C k) (framed 𝓤 H 𝓜 (tables 𝓤 H 𝓜 𝓡 γ) k) (enters 𝓤 H 𝓜 (tables 𝓤 H 𝓜 𝓡 γ) k) copied
        (λ κs q b o ys a room good asked. via 𝓤 _ (walk κs q b o ys a room good asked) (closed _ _))

  -- the function's theorem gives it
  pub knows : {M : Type 1} {𝓤 : Ura M} (𝓛 : Logic 𝓤) (𝓜 : Model 𝓤 𝓛.H) (𝓡 : Running 𝓤 𝓛.H 𝓜) (γ : Env) (f : Callee) (r : Routine) → γ f ≡ r → Meets 𝓛 ended.signature (𝓡.run r) (closing 𝓛 ended (clauses 𝓛))
      → Knows 𝓛 ((tables_of 𝓤 𝓛.H 𝓜 (tables 𝓤 𝓛.H 𝓜 𝓡 γ)).C f)
  unfolding tables_of
  knows {𝓤 = 𝓤} 𝓛 𝓜 𝓡 γ f r is met = (enters 𝓤 𝓛.H 𝓜 (tables 𝓤 𝓛.H 𝓜 𝓡 γ) f, cited 𝓤 𝓛.H (triple_of 𝓛 ended.signature (closing 𝓛 ended (clauses 𝓛))) 𝓜 𝓡 γ f r is met)
