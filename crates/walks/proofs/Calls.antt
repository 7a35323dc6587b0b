-- The calls of a walk over a row of elements, which stands at the head of the context before and after each.
--     calls-task, calls-change     a function that changes the row (`Rows.antt`), and one that returns ()
--     calls-look, calls-told   a function that looks at the row (`Looks.antt`).        calls-value     a function by value (`Values.antt`), whatever stands at the head
use mathlib.Core.Path.{◌≡◌, refl, sym, ◌∙◌, ap, subst}
use Prim.Native.Nat.{ℕ}
use mathlib.Core.List.{List, [], ◌∷◌}
use lib.ListN.{length}
use seplogic.Ra.Ura.{Ura}
use base.Fraction.{full_share}
use mir.Syntax.{Callee, Place, Opd as Operand, Body, seq, call}
use mir.Val.{Val, vunit}
use base.Logic.{id⊢}
use base.Fml.{Share}
use prog.Wp.{Env, Calls, Loops}
use types.Logic.{Logic}
use contract.Lifetimes.{Lfts}
use sound.WpLaws.{FmC}
use types.Kit.{Item, ‵, some, given, later, mean, Post, runs, lands, Seq, ◌$◌, pick, learn, use1, await, rewrite}
use types.Run.{Opds}
use denote.RattleType.{RattleType, Denots, flat}
use denote.Copied.{Copied}
use denote.Laws.{Is, Ises, Are}
use denote.Slice.{slice_val, Room}
use denote.Index.{row}
use denote.Steps.{only}
use denote.Triple.Call.{calls_from}
use Rattle.walks.proofs.Plain.{Rest, Good, flatly}
use Rattle.walks.proofs.Rows as Rows
use Rattle.walks.proofs.Rows.{Task, Change, task}
use Rattle.walks.proofs.Looks as Looks
use Rattle.walks.proofs.Looks.{Look}
use Rattle.walks.proofs.Values as Values
use Rattle.walks.proofs.Values.{Value, Fulfilled}

module _ {M : Type 1} {𝓤 : Ura M} {𝓛 : Logic 𝓤} {K : Type 0} {Γ : List (Item 𝓤)} {E : Env 𝓤 𝓛.H} {C : Calls 𝓤 𝓛.H} {Λ : Loops 𝓤 𝓛.H} {q : Post 𝓤 𝓛.H} {f : Callee} {xs : List Operand} {d : Place} {rest : Body} where
  open 𝓛 use {H}

  pub calls-task : K → FmC 𝓤 H 𝓛.laws C → {R : RattleType} (t : Task R) → Rows.Knows t 𝓛 (C f) → (val : t.result.type.Denot → Val) → ((r : t.result.type.Denot) → t.result.vals r ≡ val r ∷ [])
      → (b o n : ℕ) (ys : List R.Denot) → length ys ≡ n → Room R n → (a : (κs : Lfts 1) → Rest 1 κs t.params) → ((κs : Lfts 1) → Good 1 κs t.params (a κs)) → ((κs : Lfts 1) → t.asks κs ys (a κs))
      → (Q : t.result.type.Denot → List R.Denot → Type 0) → ((κs : Lfts 1) (r : t.result.type.Denot) (zs : List R.Denot) → t.promises κs ys (a κs) r zs → Q r zs) → (vs : List Val) → ((κs : Lfts 1) → flatly 1 κs t.params (a κs) ≡ vs)
      → Opds K 𝓛 (‵ (row R full_share ys b o) ∷ Γ) E xs (slice_val (b, o) n ∷ vs)
      → ((r : t.result.type.Denot) (zs : List R.Denot) → Is t.result.type r (val r ∷ []) → length zs ≡ n → Q r zs → Seq K 𝓛 (‵ (row R full_share zs b o) ∷ Γ) (lands C Λ E d (val r) rest q))
      → Seq K 𝓛 (‵ (row R full_share ys b o) ∷ Γ) (runs C Λ E (seq (call f xs d) rest) q)
  calls-task t fm {R} c met val one b o n ys len room a good asked Q so vs same os k =
      calls_from t fm (‵ (row R full_share ys b o)) (slice_val (b, o) (length ys) ∷ vs) _ (Rows.lowers c 𝓛 (C f) (fm f) met.0 met.1 b o ys (subst (Room R) (sym len) room) a good asked Q so vs same) (subst (λ (m : ℕ). Opds K 𝓛 (‵ (row R full_share ys b o) ∷ Γ) E xs (slice_val (b, o) m ∷ vs)) (sym len) os) (λ v.
      use1 𝓛 (later (some (λ (r : c.result.type.Denot). some (λ (l : List R.Denot). given (Is c.result.type r (v ∷ []) × (length l ≡ length ys) × Q r l) (‵ (row R full_share l b o)))))) (id⊢ 𝓤 _) $ await t tt $ pick t (λ r. pick t (λ l. learn t (λ known.
      let told : v ∷ [] ≡ val r ∷ [] = c.result.tells r (v ∷ []) known.0 ∙ one r in
      subst (λ (u : Val). Seq K 𝓛 (‵ (row R full_share l b o) ∷ Γ) (lands C Λ E d u rest q)) (sym (ap only told)) (k r l (subst (Is c.result.type r) told known.0) (known.1 ∙ len) known.2)))))

  pub calls-change : K → FmC 𝓤 H 𝓛.laws C → {R : RattleType} (t : Change R) → Rows.Knows (task t) 𝓛 (C f)
      → (b o n : ℕ) (ys : List R.Denot) → length ys ≡ n → Room R n → (a : (κs : Lfts 1) → Rest 1 κs t.params) → ((κs : Lfts 1) → Good 1 κs t.params (a κs)) → ((κs : Lfts 1) → t.asks κs ys (a κs))
      → (zs : List R.Denot) → ((κs : Lfts 1) → t.becomes κs ys (a κs) ≡ zs) → (vs : List Val) → ((κs : Lfts 1) → flatly 1 κs t.params (a κs) ≡ vs)
      → Opds K 𝓛 (‵ (row R full_share ys b o) ∷ Γ) E xs (slice_val (b, o) n ∷ vs) → (length zs ≡ n → Seq K 𝓛 (‵ (row R full_share zs b o) ∷ Γ) (lands C Λ E d vunit rest q)) → Seq K 𝓛 (‵ (row R full_share ys b o) ∷ Γ) (runs C Λ E (seq (call f xs d) rest) q)
  calls-change t fm {R} c met b o n ys len room a good asked zs e vs same os k =
      calls-task t fm (task c) met (λ _. vunit) (λ _. refl) b o n ys len room a good asked (λ _ l. l ≡ zs) (λ κs _ l p. subst (λ (z : List R.Denot). l ≡ z) (e κs) p) vs same os (λ _ l _ long p.
      rewrite t 0 (λ (z : List R.Denot). ‵ (row R full_share z b o)) p refl $ k (ap length (sym p) ∙ long))

  pub calls-look : K → FmC 𝓤 H 𝓛.laws C → {R : RattleType} → Copied 𝓛 R → (t : Look R) → Looks.Knows t 𝓛 (C f)
      → (s : Share) (b o n : ℕ) (ys : List R.Denot) → length ys ≡ n → Room R n → (a : (κs : Lfts 1) → Rest 1 κs t.params) → ((κs : Lfts 1) → Good 1 κs t.params (a κs)) → ((κs : Lfts 1) → t.asks κs ys (a κs))
      → (Q : t.result.type.Denot → Type 0) → ((κs : Lfts 1) (r : t.result.type.Denot) → t.promises κs ys (a κs) r → Q r) → (vs : List Val) → ((κs : Lfts 1) → flatly 1 κs t.params (a κs) ≡ vs)
      → Opds K 𝓛 (‵ (row R s ys b o) ∷ Γ) E xs (slice_val (b, o) n ∷ vs)
      → ((v : Val) (r : t.result.type.Denot) → Is t.result.type r (v ∷ []) → Q r → Seq K 𝓛 (‵ (row R s ys b o) ∷ Γ) (lands C Λ E d v rest q))
      → Seq K 𝓛 (‵ (row R s ys b o) ∷ Γ) (runs C Λ E (seq (call f xs d) rest) q)
  calls-look t fm {R} copied l met s b o n ys len room a good asked Q so vs same os k =
      calls_from t fm (‵ (row R s ys b o)) (slice_val (b, o) (length ys) ∷ vs) _ (Looks.lowers l 𝓛 (C f) (fm f) met.0 copied met.1 s b o ys (subst (Room R) (sym len) room) a good asked Q so vs same) (subst (λ (m : ℕ). Opds K 𝓛 (‵ (row R s ys b o) ∷ Γ) E xs (slice_val (b, o) m ∷ vs)) (sym len) os) (λ v.
      use1 𝓛 (later (some (λ (r : l.result.type.Denot). given (Is l.result.type r (v ∷ []) × Q r) (‵ (row R s ys b o))))) (id⊢ 𝓤 _) $ await t tt $ pick t (λ r. learn t (λ known. k v r known.0 known.1)))

  -- the same where the result has one machine value, val r
  pub calls-told : K → FmC 𝓤 H 𝓛.laws C → {R : RattleType} → Copied 𝓛 R → (t : Look R) → Looks.Knows t 𝓛 (C f) → (val : t.result.type.Denot → Val) → ((r : t.result.type.Denot) → t.result.vals r ≡ val r ∷ [])
      → (s : Share) (b o n : ℕ) (ys : List R.Denot) → length ys ≡ n → Room R n → (a : (κs : Lfts 1) → Rest 1 κs t.params) → ((κs : Lfts 1) → Good 1 κs t.params (a κs)) → ((κs : Lfts 1) → t.asks κs ys (a κs))
      → (Q : t.result.type.Denot → Type 0) → ((κs : Lfts 1) (r : t.result.type.Denot) → t.promises κs ys (a κs) r → Q r) → (vs : List Val) → ((κs : Lfts 1) → flatly 1 κs t.params (a κs) ≡ vs)
      → Opds K 𝓛 (‵ (row R s ys b o) ∷ Γ) E xs (slice_val (b, o) n ∷ vs)
      → ((r : t.result.type.Denot) → Is t.result.type r (val r ∷ []) → Q r → Seq K 𝓛 (‵ (row R s ys b o) ∷ Γ) (lands C Λ E d (val r) rest q))
      → Seq K 𝓛 (‵ (row R s ys b o) ∷ Γ) (runs C Λ E (seq (call f xs d) rest) q)
  calls-told t fm {R} copied l met val one s b o n ys len room a good asked Q so vs same os k = calls-look t fm copied l met s b o n ys len room a good asked Q so vs same os (λ v r is promised.
      let told : v ∷ [] ≡ val r ∷ [] = l.result.tells r (v ∷ []) is ∙ one r in
      subst (λ (u : Val). Seq K 𝓛 (‵ (row R s ys b o) ∷ Γ) (lands C Λ E d u rest q)) (sym (ap only told)) (k r (subst (Is l.result.type r) told is) promised))

  pub calls-value : K → FmC 𝓤 H 𝓛.laws C → (t : Value) → Values.Knows t 𝓛 (C f) → {i : Item 𝓤} (a : Denots (Values.kinds t.params)) → Are (Values.kinds t.params) (Ises (Values.kinds t.params)) a (Values.spelt t a) → Fulfilled t.asks a
      → (v : Val) → t.result.vals (t.is a) ≡ v ∷ [] → Opds K 𝓛 (i ∷ Γ) E xs (flat (Values.kinds t.params) (Values.spelt t a)) → (Is t.result.type (t.is a) (v ∷ []) → Seq K 𝓛 (i ∷ Γ) (lands C Λ E d v rest q))
      → Seq K 𝓛 (i ∷ Γ) (runs C Λ E (seq (call f xs d) rest) q)
  calls-value t fm c met {i} a good asked v spells os k =
      calls_from t fm i (flat (Values.kinds c.params) (Values.spelt c a)) _ (Values.gives c 𝓛 (C f) (fm f) met a good asked (mean 𝓛 i)) os (λ u.
      use1 𝓛 (later (given (Is c.result.type (c.is a) (u ∷ [])) i)) (id⊢ 𝓤 _) $ await t tt $ learn t (λ is.
      let told : u ∷ [] ≡ v ∷ [] = c.result.tells (c.is a) (u ∷ []) is ∙ spells in
      subst (λ (w : Val). Seq K 𝓛 (i ∷ Γ) (lands C Λ E d w rest q)) (sym (ap only told)) (k (subst (Is c.result.type (c.is a)) told is))))
