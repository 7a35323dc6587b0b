-- A function on plain data by value, with a `requires` that states a fact or with none, as a caller's walk uses it.
--     Condition        what it asks of its parameters: naught, or that a fact holds.        Fulfilled      that this holds
--     condition_clause  the `requires` that Rattle makes of it.        condition-had, condition-told      it is had where that holds, and tells it
--     Value            the parameters, the result, what is asked, and what the result is
--     lifts            a run that does it meets the contract
--     gives            a run that meets the contract returns that, and what the caller has, P, is as it was
use mathlib.Core.Path.{◌≡◌, refl, subst}
use mathlib.Core.List.{List, [], ◌∷◌}
use seplogic.Ra.Ura.{Ura}
use mir.Val.{Val}
use base.Logic.{SProp, ent, sep, emp, guard, guard_i, via, mono_l, fst∗, id⊢}
use base.Fml.{Fml, ftrue}
use mir.Syntax.{Fn}
use prog.Wp.{WpFn, Closed}
use prog.Model.{Model}
use prog.Routine.{Callee, Routine, Env}
use types.Logic.{Logic, sem}
use contract.Monad.{Fun, fact, fact_i, fm→mono}
use contract.Running.{Running, tables, tables_of}
use types.Kit.{‵, raw, some, given, later, ◌⊛◌, ◌$◌, ◌∵◌, !, qed, move, keep, use0, use1, split, join, pick, learn, drop, suffices, frame, check, await, updating, now as at_once, done}
use denote.RattleType.{RattleType, Denots, Valss, owns, flat}
use denote.Laws.{Is, Ises, Are, shows, owns_make}
use denote.Signature.{Slot, plain}
use denote.Steps.{nothing, heard, peeks, owned}
use denote.Triple.Spec.{Meets, triple_of}
use denote.Triple.Statement.{FmF}
use denote.Triple.Table.{framed, cited}
use denote.Triple.Walked.{says, needs, Stays, has_of, walk_of, ends_at, walked, walk_Meets}
use denote.Triple.Clauses.{Ended, Clauses, closing, lasts, Lasts}
use Rattle.walks.proofs.Plain as Plains
use Rattle.walks.proofs.Plain.{Plain}

-- of a signature with no lifetime
abbrev slots : List Plain → List (Slot 0)
slots = Plains.slots 0

abbrev pub kinds : List Plain → List RattleType
kinds = Plains.kinds 0 tt

pub data Condition (D : Type 0) : Type 1 where
  naught : Condition D
  that : (D → Type 0) → Condition D

abbrev pub Fulfilled : {D : Type 0} → Condition D → D → Type 0
Fulfilled naught a = Unit {0}
Fulfilled (that φ) a = φ a

module _ {M : Type 1} (𝓤 : Ura M) where
  abbrev pub condition_clause : {D : Type 0} → Condition D → D → SProp 𝓤
  condition_clause naught a = emp 𝓤
  condition_clause (that φ) a = fact 𝓤 (φ a)

  condition-had : {D : Type 0} (q : Condition D) (a : D) → Fulfilled q a → ent 𝓤 (emp 𝓤) (condition_clause q a)
  condition-had naught a asked = id⊢ 𝓤 _
  condition-had (that φ) a asked = fact_i 𝓤 (φ a) (emp 𝓤) asked

  condition-told : {D : Type 0} (q : Condition D) (a : D) (P : SProp 𝓤) {Q : SProp 𝓤} → (Fulfilled q a → ent 𝓤 P Q) → ent 𝓤 (sep 𝓤 P (condition_clause q a)) Q
  condition-told naught a P h = via 𝓤 P (fst∗ 𝓤 P (emp 𝓤)) (h tt)
  condition-told (that φ) a P h = needs 𝓤 (φ a) P h

pub record Value : Type 2 where
  pub params : List Plain
  pub result : Plain
  pub asks : Condition (Denots (kinds params))
  pub is : Denots (kinds params) → result.type.Denot

module _ (t : Value) where
  abbrev pub ended : Ended
  ended = record { signature = record { lifetimes = 0; outlives = []; params = slots t.params; result = plain (λ _. t.result.type) }; kept = Plains.kept 0 t.params }

  abbrev stayed : Stays ended.signature.params ended.kept
  stayed = Plains.stays 0 t.params

  abbrev pub spelt : Denots (kinds t.params) → Valss (kinds t.params)
  spelt a = Plains.spelt 0 tt t.params a

  module _ {M : Type 1} {𝓤 : Ura M} (𝓛 : Logic 𝓤) where
    open 𝓛 use {H}

    abbrev pub clauses : Clauses 𝓤 ended
    clauses κs a = record { ghost = Unit {0}; requires = λ _. condition_clause 𝓤 t.asks a; ensures = λ _ r e. fact 𝓤 (r ≡ t.is a) }

    -- what a caller's walk asks of the entry of a table that stands for the function
    abbrev pub Knows : Fun 𝓤 → Type 1
    Knows run = Meets 𝓛 ended.signature run (closing 𝓛 ended clauses)

    module _ (run : Fun 𝓤) (fm : FmF 𝓤 run) (met : Meets 𝓛 ended.signature run (closing 𝓛 ended clauses)) (a : Denots (kinds t.params)) (good : Are (kinds t.params) (Ises (kinds t.params)) a (spelt a)) (asked : Fulfilled t.asks a) (P : SProp 𝓤) where
      abbrev y : (triple_of 𝓛 ended.signature (closing 𝓛 ended clauses)).Ghost
      y = ((tt, tt, tt, a, spelt a), tt)

      abbrev pub Gives : Val → SProp 𝓤
      Gives v = H.⇛ (guard 𝓤 (Is t.result.type (t.is a) (v ∷ [])) P)

      goes : ent 𝓤 P (sep 𝓤 ((triple_of 𝓛 ended.signature (closing 𝓛 ended clauses)).pre y) P)
      goes = qed 𝓛 (raw P ∷ []) ∵ use0 𝓛 (raw (condition_clause 𝓤 t.asks a)) (condition-had 𝓤 t.asks a asked) $ use0 𝓛 (‵ (owns (kinds t.params) a (spelt a))) (owns_make 𝓛 (kinds t.params) (Ises (kinds t.params)) (Plains.make 𝓛 0 tt t.params) a (spelt a) good) $ use0 𝓛 (raw (emp 𝓤)) (id⊢ 𝓤 _) $
          join ! $ move ! (0 ∷ 1 ∷ []) $ join ! $ done !

      back : (v : Val) → ent 𝓤 (sep 𝓤 ((triple_of 𝓛 ended.signature (closing 𝓛 ended clauses)).post y v) P) (Gives v)
      back v =
          qed 𝓛 (raw ((triple_of 𝓛 ended.signature (closing 𝓛 ended clauses)).post y v) ∷ raw P ∷ []) ∵ updating ! $
          use1 𝓛 (later (some (λ (r : t.result.type.Denot). (raw (emp 𝓤) ⊛ ‵ (t.result.type.own_val r (v ∷ []))) ⊛ some (λ (ws : Lasts ended tt a). ‵ (lasts ended tt a ws) ⊛ raw (fact 𝓤 (r ≡ t.is a)))))) (id⊢ 𝓤 _) $ await ! tt $ pick ! (λ r.
          split ! $ move ! (1 ∷ []) $ pick ! (λ ws. split ! $ move ! (1 ∷ []) $ heard ! (r ≡ t.is a) (λ e. move ! (1 ∷ []) $ split ! $ move ! (1 ∷ []) $ peeks ! t.result.type (Is t.result.type) (shows 𝓛 t.result.type) r (v ∷ []) (λ is.
          at_once ! $ check ! (subst (λ (x : t.result.type.Denot). Is t.result.type x (v ∷ [])) e is) $ keep ! (3 ∷ []) $ done !))))

      pub gives : ent 𝓤 P (run (flat (kinds t.params) (spelt a)) Gives)
      gives = via 𝓤 _ goes (via 𝓤 _ (mono_l 𝓤 P (met y)) (fm _ _ Gives P back))

    -- ---- a function by value that is walked by hand: it starts from nothing, and what it returns is known
    abbrev pub Returned : Denots (kinds t.params) → Val → SProp 𝓤
    Returned a v = H.⇛ (guard 𝓤 (Is t.result.type (t.is a) (v ∷ [])) (emp 𝓤))

    abbrev pub Does : Fun 𝓤 → Type 1
    Does run = (a : Denots (kinds t.params)) → Are (kinds t.params) (Ises (kinds t.params)) a (spelt a) → Fulfilled t.asks a → ent 𝓤 (emp 𝓤) (run (flat (kinds t.params) (spelt a)) (Returned a))

    module _ where
      -- how a walk ends
      pub leaves : (a : Denots (kinds t.params)) (v : Val) → Is t.result.type (t.is a) (v ∷ []) → ent 𝓤 (emp 𝓤) (Returned a v)
      leaves a v is = via 𝓤 _ (guard_i 𝓤 (Is t.result.type (t.is a) (v ∷ [])) (emp 𝓤) is) (𝓛.laws.⇛_intro _)

      module _ (run : Fun 𝓤) (fm : FmF 𝓤 run) where
        module _ (a : Denots (kinds t.params)) where
          abbrev Post : Val → SProp 𝓤
          Post = (walk_of 𝓛 ended stayed clauses).post ((tt, tt, tt, a, spelt a), tt)

          abbrev Has : Fml
          Has = has_of tt (slots t.params) (Plains.kept 0 t.params) stayed a (Plains.last 0 tt t.params a) (spelt a)

          still : ent 𝓤 (sem 𝓛 (owns (kinds t.params) a (spelt a))) (sem 𝓛 Has)
          still = subst (λ (P : Fml). ent 𝓤 (sem 𝓛 (owns (kinds t.params) a (spelt a))) (sem 𝓛 P)) (Plains.had 0 tt t.params a (spelt a)) (id⊢ 𝓤 _)

          closes : (v : Val) → ent 𝓤 (sep 𝓤 (Returned a v) (sem 𝓛 (owns (kinds t.params) a (spelt a)))) (Post v)
          closes v =
              qed 𝓛 (raw (Returned a v) ∷ ‵ (owns (kinds t.params) a (spelt a)) ∷ []) ∵ suffices ! (H.⇛ (Post v)) (𝓛.laws.⇛_trans _) $ updating ! $
              use1 𝓛 (later (given (Is t.result.type (t.is a) (v ∷ [])) (‵ ftrue))) (id⊢ 𝓤 _) $ await ! tt $ learn ! (λ is. drop ! $ at_once ! $
              suffices ! _ (ends_at 𝓛 ended stayed clauses ((tt, tt, tt, a, spelt a), tt) v (t.is a) (Plains.last 0 tt t.params a) (Plains.fit 0 tt t.params a)) $ says ! refl $
              nothing ! $ frame ! $ use1 𝓛 (‵ Has) still $ frame ! $ owned ! t.result.type (Is t.result.type) (t.result.makes M 𝓤 𝓛) (t.is a) _ is $ done !)

        pub lifts : Does run → Meets 𝓛 ended.signature run (closing 𝓛 ended clauses)
        lifts does = walk_Meets 𝓛 ended stayed (Plains.go 𝓛 0 t.params) clauses run (λ vs. fm→mono 𝓤 (run vs) (fm vs))
            (walked 𝓛 ended stayed clauses run (λ κs. Plains.spells 0 tt t.params) (λ κs. Plains.tell 0 tt t.params) (λ κs qs bounds a g are. condition-told 𝓤 t.asks a _ (λ asked.
            via 𝓤 _ (mono_l 𝓤 (sem 𝓛 (owns (kinds t.params) a (spelt a))) (does a are asked)) (fm (flat (kinds t.params) (spelt a)) (Returned a) (Post a) (sem 𝓛 (owns (kinds t.params) a (spelt a))) (closes a)))))

  -- a walk of the MIR that does it proves the function
  module _ {M : Type 1} {𝓤 : Ura M} (𝓛 : Logic 𝓤) (𝓜 : Model 𝓤 𝓛.H) (𝓡 : Running 𝓤 𝓛.H 𝓜) (γ : Env) (k : Callee) (e : Fn) where
    open 𝓛 use {H}

    pub proves : Closed 𝓤 H (tables 𝓤 H 𝓜 𝓡 γ).C (tables 𝓤 H 𝓜 𝓡 γ).Λ k e → Does 𝓛 (WpFn 𝓤 H (tables_of 𝓤 H 𝓜 (tables 𝓤 H 𝓜 𝓡 γ)).C (tables_of 𝓤 H 𝓜 (tables 𝓤 H 𝓜 𝓡 γ)).Λ e)
        → Meets 𝓛 ended.signature ((tables 𝓤 H 𝓜 𝓡 γ).C k) (closing 𝓛 ended (clauses 𝓛))
    unfolding tables_of
    proves closed walk = lifts 𝓛 ((tables 𝓤 H 𝓜 𝓡 γ).C k) (framed 𝓤 H 𝓜 (tables 𝓤 H 𝓜 𝓡 γ) k) (λ a good asked. via 𝓤 _ (walk a good asked) (closed _ _))

  -- the function's theorem gives it
  pub knows : {M : Type 1} {𝓤 : Ura M} (𝓛 : Logic 𝓤) (𝓜 : Model 𝓤 𝓛.H) (𝓡 : Running 𝓤 𝓛.H 𝓜) (γ : Env) (f : Callee) (r : Routine) → γ f ≡ r → Meets 𝓛 ended.signature (𝓡.run r) (closing 𝓛 ended (clauses 𝓛))
      → Knows 𝓛 ((tables_of 𝓤 𝓛.H 𝓜 (tables 𝓤 𝓛.H 𝓜 𝓡 γ)).C f)
  unfolding tables_of
  knows {𝓤 = 𝓤} 𝓛 𝓜 𝓡 γ f r is met = cited 𝓤 𝓛.H (triple_of 𝓛 ended.signature (closing 𝓛 ended (clauses 𝓛))) 𝓜 𝓡 γ f r is met
