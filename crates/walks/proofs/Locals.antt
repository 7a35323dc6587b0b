-- A function's locals in a walk, all at once: local k stands at position k + 2 of the context, behind what the function works on (i, a row as a rule) and what says that the locals die. So a rule computes the position from the MIR, and a proof answers `refl`.
--     locals           the function is entered: [i; …; room for _0; room for _1; …]
--     var, vars2, vars3    operands that are locals.        points, counts       the two parts of a slice that is held in a local
--     sets, resets     `_k = rvalue`, where _k was room, was full.        relends      `_p = &*_k.0; _s = (_p, _k.1)`: the slice in _k is lent on
--     lands-in, lands-on   the result of a call is stored in a local that was room, that was full
--     ifs, breaks      `if c { a }`, and then the rest, and a `break` in a.        whiles, tests, resets-last      a `while`: the loop, its test, and the last statement of a turn
--     leaves           the function returns: each local is freed, whether it was written (full) or not (empty), and i is left to show the postcondition.        leaves-within    the same inside a loop or a branch
use Prim.Native.Nat.{ℕ, zero, ◌+◌, ◌<◌, ◌^◌}
use mathlib.Core.Path.{◌≡◌, refl, sym, subst}
use mathlib.Core.Bool.{Bool, not}
use mathlib.Core.List.{List, [], ◌∷◌}
use seplogic.Ra.Ura.{Ura}
use base.Fraction.{full_share}
use lib.WfN.{lt-wf_rel}
use lib.Dec.{T as Holds}
use mir.Syntax.{Ty, Lifetime, Mutability, ty_ref, Local, local, Fn, Body, Rv as RValue, w64, ty_int, place, field, deref, addr_of, aggregate, copy, Opd as Operand, seq, assign, cond, skip, exit, block, loop, return}
use mir.Val.{Val, vbool, vint, vptr, vstruct, vcons, vnil, has_ty, WT}
use base.Logic.{SProp, ent, sep, wand, emp, via, mono_r, comm∗, emp∗, fst∗, id⊢, all_i, wand_i}
use base.Fml.{fat, froom, fdies}
use prog.Wp.{Tables, Env, Calls, Loops, WpFn, Wp, alloc, params, at_return, spot_of, next, exits, returns as returnsᴼ, after_turn, after_block, after_seq}
use types.Logic.{Logic}
use types.Kit.{Item, ‵, raw, ◌⊛◌, ⋆, mean, push, nth, put, Post, any_q, post, prop, runs, lands, frees, params', at_ret, Seq, Step, step, ◌$◌, ◌∵◌, !, qed, by, move, use1, split, join, suffices, frame, done}
use types.Run.{Reads, Walks, addr, fld, hop, Opd, Opds, Rv, look, init, stop, from, load, and_then, no_more, assigns, assigns_last, store, land, first, branches, skips, jumps, blocks, loops, again, Below, returns, returns_within, free1, free0}
use types.Part.{Part, agg, whole, sub, look_in}
use denote.Slice.{slice_ty, slice_val}

-- where each local lies
abbrev pub Spots : List Local → Type 0
Spots [] = Unit {0}
Spots (l ∷ ls) = ℕ × Spots ls

module _ {M : Type 1} {𝓤 : Ura M} (𝓛 : Logic 𝓤) where
  open 𝓛 use {H}

  abbrev pub env : (ls : List Local) → Spots ls → Env 𝓤 H
  env [] s = []
  env (local τ h ∷ ls) s = (τ, s.0) ∷ env ls s.1

  abbrev pub die : Env 𝓤 H → SProp 𝓤
  die [] = emp 𝓤
  die (e ∷ E) = sep 𝓤 (H.dies e.0 e.1) (die E)

  abbrev pub rooms : Env 𝓤 H → List (Item 𝓤)
  rooms [] = []
  rooms (e ∷ E) = ‵ (froom e.0 e.1 zero) ∷ rooms E

  module _ where
    -- item i is a local that can be freed
    pub record Clear (i : Item 𝓤) (τ : Ty) (b : ℕ) : Type 1 where
      pub goes : ent 𝓤 (mean 𝓛 i) (H.room τ b zero)

    pub record Never : Type 1 where
      pub never : ⊥

    abbrev pub Clears : List (Item 𝓤) → Env 𝓤 H → Type 1
    Clears [] [] = Unit {1}
    Clears (i ∷ is) (e ∷ E) = Clear i e.0 e.1 × Clears is E
    Clears [] (e ∷ E) = Never
    Clears (i ∷ is) [] = Never

    allocated : (ls : List Local) (P : SProp 𝓤) (G : Env 𝓤 H → SProp 𝓤) → ((s : Spots ls) → ent 𝓤 (sep 𝓤 P (sep 𝓤 (die (env ls s)) (⋆ 𝓛 (rooms (env ls s))))) (G (env ls s))) → ent 𝓤 P (alloc 𝓤 H ls G)
    allocated [] P G k = via 𝓤 (sep 𝓤 P (sep 𝓤 (emp 𝓤) (emp 𝓤))) (via 𝓤 (sep 𝓤 P (emp 𝓤)) (via 𝓤 (sep 𝓤 (emp 𝓤) P) (emp∗ 𝓤 P) (comm∗ 𝓤 (emp 𝓤) P)) (mono_r 𝓤 P (emp∗ 𝓤 (emp 𝓤)))) (k tt)
    allocated (local τ h ∷ ls) P G k =
        all_i 𝓤 (λ (b : ℕ). wand 𝓤 (sep 𝓤 (H.room τ b zero) (H.dies τ b)) (alloc 𝓤 H ls (λ E. G ((τ, b) ∷ E)))) (λ b. wand_i 𝓤 P (sep 𝓤 (H.room τ b zero) (H.dies τ b)) (alloc 𝓤 H ls (λ E. G ((τ, b) ∷ E)))
        (allocated ls (sep 𝓤 P (sep 𝓤 (H.room τ b zero) (H.dies τ b))) (λ E. G ((τ, b) ∷ E)) (λ s. via 𝓤 _ (sorts b (env ls s)) (k (b, s)))))
      where
        sorts : (b : ℕ) (E : Env 𝓤 H) → ent 𝓤 (sep 𝓤 (sep 𝓤 P (sep 𝓤 (H.room τ b zero) (H.dies τ b))) (sep 𝓤 (die E) (⋆ 𝓛 (rooms E)))) (sep 𝓤 P (sep 𝓤 (die ((τ, b) ∷ E)) (⋆ 𝓛 (rooms ((τ, b) ∷ E)))))
        sorts b E =
            qed 𝓛 ((raw P ⊛ (‵ (froom τ b zero) ⊛ ‵ (fdies τ b))) ∷ (raw (die E) ⊛ raw (⋆ 𝓛 (rooms E))) ∷ []) ∵ split ! $ frame ! $ split ! $ move ! (2 ∷ []) $ split ! $ move ! (3 ∷ 0 ∷ []) $ join ! $
            frame ! $ suffices ! (sep 𝓤 (H.room τ b zero) (⋆ 𝓛 (rooms E))) (push 𝓛 (‵ (froom τ b zero)) (rooms E)) $ move ! (1 ∷ 0 ∷ []) $ done !

module _ {M : Type 1} {𝓤 : Ura M} {𝓛 : Logic 𝓤} where
  pub full : {τ : Ty} {b : ℕ} {v : Val} → Clear 𝓛 (‵ (fat full_share τ b zero v)) τ b
  full {τ} {b} {v} = record { goes = 𝓛.laws.at_room τ b zero v }

  pub empty : {τ : Ty} {b : ℕ} → Clear 𝓛 (‵ (froom τ b zero)) τ b
  empty {τ} {b} = record { goes = id⊢ 𝓤 _ }

module _ {M : Type 1} {𝓤 : Ura M} {𝓛 : Logic 𝓤} {K : Type 0} where
  open 𝓛 use {H}

  pub locals : K → {i : Item 𝓤} (C : Calls 𝓤 H) (Λ : Loops 𝓤 H) (f : Fn) (vs : List Val) (Kf : Val → SProp 𝓤)
      → ((s : Spots f.locals) → Seq K 𝓛 (i ∷ raw (die 𝓛 (env 𝓛 f.locals s)) ∷ rooms 𝓛 (env 𝓛 f.locals s)) (params' (env 𝓛 f.locals s) vs (runs C Λ (env 𝓛 f.locals s) f.body (at_ret (env 𝓛 f.locals s) Kf))))
      → Seq K 𝓛 (i ∷ []) (prop (WpFn 𝓤 H C Λ f vs Kf))
  unfolding WpFn
  locals t {i} C Λ f vs Kf k = record {
    prf = allocated 𝓛 f.locals (mean 𝓛 i) (λ E. params 𝓤 H E vs (Wp 𝓤 H C Λ E f.body (at_return 𝓤 H E Kf)))
        (λ s. via 𝓤 _ (mono_r 𝓤 (mean 𝓛 i) (push 𝓛 (raw (die 𝓛 (env 𝓛 f.locals s))) (rooms 𝓛 (env 𝓛 f.locals s)))) (k s).prf);
  }

  freed : K → (i : Item 𝓤) (is : List (Item 𝓤)) (E : Env 𝓤 H) {P : SProp 𝓤} → Clears 𝓛 is E → ent 𝓤 (mean 𝓛 i) P → Seq K 𝓛 (i ∷ raw (die 𝓛 E) ∷ is) (frees E (prop P))
  freed t i [] [] c h = free0 t $ by t (via 𝓤 _ (fst∗ 𝓤 (mean 𝓛 i) (emp 𝓤)) h)
  freed t i (j ∷ is) ((τ, b) ∷ E) c h = move t (2 ∷ 1 ∷ []) $ use1 𝓛 (‵ (froom τ b zero)) c.0.goes $ move t (1 ∷ []) $ use1 𝓛 (‵ (fdies τ b) ⊛ raw (die 𝓛 E)) (id⊢ 𝓤 _) $ split t $
      move t (2 ∷ 0 ∷ 3 ∷ []) $ free1 t $ freed t i is E c.1 h
  freed t i [] (e ∷ E) c h = absurd c.never
  freed t i (j ∷ is) [] c h = absurd c.never

  pub leaves : K → {i : Item 𝓤} {is : List (Item 𝓤)} {E : Env 𝓤 H} {C : Calls 𝓤 H} {Λ : Loops 𝓤 H} {Kf : Val → SProp 𝓤} {r : Val}
      → Reads K 𝓛 (i ∷ raw (die 𝓛 E) ∷ is) (spot_of 𝓤 H E zero).0 (spot_of 𝓤 H E zero).1 zero r → Clears 𝓛 is E → ent 𝓤 (mean 𝓛 i) (Kf r) → Seq K 𝓛 (i ∷ raw (die 𝓛 E) ∷ is) (runs C Λ E return (at_ret E Kf))
  leaves t {i} {is} {E} rd c h = returns t rd $ freed t i is E c h

  -- the same of a `return` inside a loop or a branch
  pub leaves-within : K → {i : Item 𝓤} {is : List (Item 𝓤)} {E : Env 𝓤 H} {C : Calls 𝓤 H} {Λ : Loops 𝓤 H} {q : Post 𝓤 H} (Kf : Val → SProp 𝓤) {r : Val} → post 𝓤 H q returnsᴼ ≡ at_return 𝓤 H E Kf returnsᴼ
      → Reads K 𝓛 (i ∷ raw (die 𝓛 E) ∷ is) (spot_of 𝓤 H E zero).0 (spot_of 𝓤 H E zero).1 zero r → Clears 𝓛 is E → ent 𝓤 (mean 𝓛 i) (Kf r) → Seq K 𝓛 (i ∷ raw (die 𝓛 E) ∷ is) (runs C Λ E return q)
  leaves-within t {i} {is} {E} Kf e rd c h = returns_within t Kf e rd $ freed t i is E c h

-- ---- statements whose operands and target are locals: the position of local k is k + 2, so a proof names none
module _ {M : Type 1} {𝓤 : Ura M} (𝓛 : Logic 𝓤) where
  -- what stands for local k; local k with a value, and as room
  open 𝓛 use {H}

  abbrev pub Local' : List (Item 𝓤) → ℕ → Item 𝓤
  Local' Γ k = nth 𝓛 (2 + k) Γ

  abbrev pub Full : Env 𝓤 H → ℕ → Val → Item 𝓤
  Full E k v = ‵ (fat full_share (spot_of 𝓤 H E k).0 (spot_of 𝓤 H E k).1 zero v)

  abbrev pub Room : Env 𝓤 H → ℕ → Item 𝓤
  Room E k = ‵ (froom (spot_of 𝓤 H E k).0 (spot_of 𝓤 H E k).1 zero)

module _ {M : Type 1} {𝓤 : Ura M} {𝓛 : Logic 𝓤} {K : Type 0} {Γ : List (Item 𝓤)} {E : Env 𝓤 𝓛.H} where
  open 𝓛 use {H}

  pub var : K → {k : ℕ} {v : Val} → Local' 𝓛 Γ k ≡ Full 𝓛 E k v → Opd K 𝓛 Γ E (copy (place k [])) v
  var t {k} e = load t (from t (stop t)) (look t (2 + k) e)

  pub vars2 : K → {k l : ℕ} {v w : Val} → Local' 𝓛 Γ k ≡ Full 𝓛 E k v → Local' 𝓛 Γ l ≡ Full 𝓛 E l w → Opds K 𝓛 Γ E (copy (place k []) ∷ copy (place l []) ∷ []) (v ∷ w ∷ [])
  vars2 t e f = and_then t (var t e) (and_then t (var t f) (no_more t))

  pub vars3 : K → {k l m : ℕ} {v w x : Val} → Local' 𝓛 Γ k ≡ Full 𝓛 E k v → Local' 𝓛 Γ l ≡ Full 𝓛 E l w → Local' 𝓛 Γ m ≡ Full 𝓛 E m x → Opds K 𝓛 Γ E (copy (place k []) ∷ copy (place l []) ∷ copy (place m []) ∷ []) (v ∷ w ∷ x ∷ [])
  vars3 t e f g = and_then t (var t e) (vars2 t f g)

  module _ {C : Calls 𝓤 H} {Λ : Loops 𝓤 H} {q : Post 𝓤 H} {rest : Body} where
    -- local k, which was room, is set; the result of a call lands in it
    pub sets : K → {k : ℕ} {v : Val} {rv : RValue} → Rv K 𝓛 Γ E rv v → Local' 𝓛 Γ k ≡ Room 𝓛 E k → Holds (has_ty (spot_of 𝓤 H E k).0 v) × WT v → Step K 𝓛 (put 𝓛 (2 + k) (Full 𝓛 E k v) Γ) (runs C Λ E rest q) Γ (runs C Λ E (seq (assign (place k []) rv) rest) q)
    sets t {k} r e typed = assigns t r (from t (stop t)) (init t (2 + k) e typed)

    -- local k is set anew
    pub resets : K → {k : ℕ} {u v : Val} {rv : RValue} → Rv K 𝓛 Γ E rv v → Local' 𝓛 Γ k ≡ Full 𝓛 E k u → Holds (has_ty (spot_of 𝓤 H E k).0 v) × WT v → Step K 𝓛 (put 𝓛 (2 + k) (Full 𝓛 E k v) Γ) (runs C Λ E rest q) Γ (runs C Λ E (seq (assign (place k []) rv) rest) q)
    resets t {k} r e typed = assigns t r (from t (stop t)) (store t (2 + k) e typed)

    pub lands-in : K → {k : ℕ} {v : Val} → Local' 𝓛 Γ k ≡ Room 𝓛 E k → Holds (has_ty (spot_of 𝓤 H E k).0 v) × WT v → Step K 𝓛 (put 𝓛 (2 + k) (Full 𝓛 E k v) Γ) (runs C Λ E rest q) Γ (lands C Λ E (place k []) v rest q)
    lands-in t {k} e typed = land t (from t (stop t)) (init t (2 + k) e typed)

    -- `if c { a }`, where a leaves the function or the loop or falls through by itself, and then the rest
    pub ifs : K → {c : Operand} {a : Body} {y : Bool} → Opd K 𝓛 Γ E c (vbool y) → (Holds y → (Q : Post 𝓤 H) → post 𝓤 H Q returnsᴼ ≡ post 𝓤 H q returnsᴼ → ((n : ℕ) → post 𝓤 H Q (exits n) ≡ post 𝓤 H q (exits n)) → Seq K 𝓛 Γ (runs C Λ E a Q)) → (Holds (not y) → Seq K 𝓛 Γ (runs C Λ E rest q)) → Seq K 𝓛 Γ (runs C Λ E (seq (cond c a skip) rest) q)
    ifs t o then else = first t $ branches t o (λ z. then z _ refl (λ n. refl)) (λ z. skips t $ record { prf = (else z).prf })

    -- it lands in a local that was full
    pub lands-on : K → {k : ℕ} {u v : Val} → Local' 𝓛 Γ k ≡ Full 𝓛 E k u → Holds (has_ty (spot_of 𝓤 H E k).0 v) × WT v → Step K 𝓛 (put 𝓛 (2 + k) (Full 𝓛 E k v) Γ) (runs C Λ E rest q) Γ (lands C Λ E (place k []) v rest q)
    lands-on t {k} e typed = land t (from t (stop t)) (store t (2 + k) e typed)

    -- the test of a `while`: the turn goes on, or the loop is left
    pub tests : K → {c : Operand} {n : ℕ} {y : Bool} → Opd K 𝓛 Γ E c (vbool y) → (Holds y → Seq K 𝓛 Γ (runs C Λ E rest q)) → (Holds (not y) → Seq K 𝓛 Γ (prop (post 𝓤 H q (exits n)))) → Seq K 𝓛 Γ (runs C Λ E (seq (cond c skip (exit n)) rest) q)
    tests t o go stop = first t $ branches t o (λ z. skips t $ record { prf = (go z).prf }) (λ z. jumps t $ record { prf = (stop z).prf })

  module _ {C : Calls 𝓤 H} {Λ : Loops 𝓤 H} {q : Post 𝓤 H} where
    -- a `break` within a branch
    pub breaks : K → {n : ℕ} {P : SProp 𝓤} → post 𝓤 H q (exits n) ≡ P → Step K 𝓛 Γ (prop P) Γ (runs C Λ E (exit n) q)
    breaks t e = step (λ s. jumps t $ subst (λ (P : SProp 𝓤). Seq K 𝓛 Γ (prop P)) (sym e) s)

    -- local k is set anew, by the last statement of a turn
    pub resets-last : K → {k : ℕ} {u v : Val} {rv : RValue} → Rv K 𝓛 Γ E rv v → Local' 𝓛 Γ k ≡ Full 𝓛 E k u → Holds (has_ty (spot_of 𝓤 H E k).0 v) × WT v → Step K 𝓛 (put 𝓛 (2 + k) (Full 𝓛 E k v) Γ) (prop (post 𝓤 H q next)) Γ (runs C Λ E (assign (place k []) rv) q)
    resets-last t {k} r e typed = assigns_last t r (from t (stop t)) (store t (2 + k) e typed)

  -- the two parts of a slice that is held in local k: what it points to, and its count
  module _ {k b o m l : ℕ} {ℓ : Lifetime} {w : Mutability} {τ : Ty} (t : K) (e : Local' 𝓛 Γ k ≡ ‵ (fat full_share (slice_ty (ty_ref ℓ w τ)) l zero (slice_val (b, o) m))) (at : spot_of 𝓤 H E k ≡ (slice_ty (ty_ref ℓ w τ), l, zero)) where
    pub points : {σ : Ty} → Rv K 𝓛 Γ E (addr_of (place k (field 0 ∷ deref σ ∷ []))) (vptr b o)
    points {σ} = addr t (from t (subst (λ (sp : Ty × ℕ × ℕ). Walks K 𝓛 Γ E sp (field 0 ∷ deref σ ∷ []) (σ, b, o)) (sym at)
        (fld t refl (hop t (look_in t (2 + k) (subst (λ (j : Item 𝓤). Part K 𝓛 j full_share (ty_ref ℓ w τ) l 0 (vptr b o) (λ u. ‵ (fat full_share (slice_ty (ty_ref ℓ w τ)) l zero (vstruct (vcons u (vcons (vint w64 m) vnil)))))) (sym e) (sub t 0 refl (whole t)))) (stop t)))))

    pub counts : Opd K 𝓛 Γ E (copy (place k (field 1 ∷ []))) (vint w64 m)
    counts = load t (from t (subst (λ (sp : Ty × ℕ × ℕ). Walks K 𝓛 Γ E sp (field 1 ∷ []) (ty_int w64, l, 8)) (sym at) (fld t refl (stop t))))
        (look_in t (2 + k) (subst (λ (j : Item 𝓤). Part K 𝓛 j full_share (ty_int w64) l 8 (vint w64 m) (λ u. ‵ (fat full_share (slice_ty (ty_ref ℓ w τ)) l zero (vstruct (vcons (vptr b o) (vcons u vnil)))))) (sym e) (sub t 1 refl (whole t))))

module _ {M : Type 1} {𝓤 : Ura M} {𝓛 : Logic 𝓤} {K : Type 0} {Γ : List (Item 𝓤)} {E : Env 𝓤 𝓛.H} where
  -- a slice that is held in local k is lent on: what it points to goes to local p, and with the count to local s
  open 𝓛 use {H}

  pub relends : K → {k p s b o m l : ℕ} {ℓ ℓ' : Lifetime} {w w' : Mutability} {τ τ' σ : Ty} {C : Calls 𝓤 H} {Λ : Loops 𝓤 H} {q : Post 𝓤 H} {rest : Body} → m < 2 ^ 64
      → Local' 𝓛 Γ k ≡ ‵ (fat full_share (slice_ty (ty_ref ℓ w τ)) l zero (slice_val (b, o) m)) → spot_of 𝓤 H E k ≡ (slice_ty (ty_ref ℓ w τ), l, zero) → Local' 𝓛 Γ p ≡ Room 𝓛 E p → (spot_of 𝓤 H E p).0 ≡ ty_ref ℓ' w' τ'
      → Local' 𝓛 (put 𝓛 (2 + p) (Full 𝓛 E p (vptr b o)) Γ) k ≡ ‵ (fat full_share (slice_ty (ty_ref ℓ w τ)) l zero (slice_val (b, o) m)) → Local' 𝓛 (put 𝓛 (2 + p) (Full 𝓛 E p (vptr b o)) Γ) p ≡ Full 𝓛 E p (vptr b o)
      → Local' 𝓛 (put 𝓛 (2 + p) (Full 𝓛 E p (vptr b o)) Γ) s ≡ Room 𝓛 E s → (spot_of 𝓤 H E s).0 ≡ slice_ty (ty_ref ℓ' w' τ')
      → Step K 𝓛 (put 𝓛 (2 + s) (Full 𝓛 E s (slice_val (b, o) m)) (put 𝓛 (2 + p) (Full 𝓛 E p (vptr b o)) Γ)) (runs C Λ E rest q)
      Γ (runs C Λ E (seq (assign (place p []) (addr_of (place k (field 0 ∷ deref σ ∷ [])))) (seq (assign (place s []) (aggregate (copy (place p []) ∷ copy (place k (field 1 ∷ [])) ∷ []))) rest)) q)
  relends t {b = b} {o = o} {m = m} fits e at ep is-ref e' ep' es is_slice = step (λ z.
      sets t (points t e at) ep (subst (λ (υ : Ty). Holds (has_ty υ (vptr b o)) × WT (vptr b o)) (sym is-ref) (tt, tt)) $
      sets t (agg t (and_then t (var t ep') (and_then t (counts t e' at) (no_more t)))) es (subst (λ (υ : Ty). Holds (has_ty υ (slice_val (b, o) m)) × WT (slice_val (b, o) m)) (sym is_slice) (tt, (tt, (record { fits = fits }, tt)))) $ z)

-- ---- a `while`, with the invariant I n where n is what is left. A turn from I n goes on from I m, for some m below n (again), or leaves the loop (leave), and the code after it runs, or returns (out)
module _ {M : Type 1} {𝓤 : Ura M} {𝓛 : Logic 𝓤} {K : Type 0} where
  open 𝓛 use {H}

  pub whiles : K → (𝓣 : Tables 𝓤 H) (I : ℕ → List (Item 𝓤)) {E : Env 𝓤 H} {turn rest : Body} {q : Post 𝓤 H}
      → ((n : ℕ) (Q : Post 𝓤 H) → ((m : ℕ) → m < n → Seq K 𝓛 (I m) (prop (post 𝓤 H Q next))) → ((Γ : List (Item 𝓤)) → Step K 𝓛 Γ (runs 𝓣.C 𝓣.Λ E rest q) Γ (prop (post 𝓤 H Q (exits 1)))) → post 𝓤 H Q returnsᴼ ≡ post 𝓤 H q returnsᴼ → Seq K 𝓛 (I n) (runs 𝓣.C 𝓣.Λ E turn Q))
      → (n : ℕ) → Seq K 𝓛 (I n) (runs 𝓣.C 𝓣.Λ E (seq (block (loop turn)) rest) q)
  unfolding after_turn
  whiles t 𝓣 I {E} {turn} {rest} {q} go n = first t $ blocks t $ loops t 𝓣 ◌<◌ lt-wf_rel.wf I (λ k. go k (any_q (after_turn 𝓤 H (Below 𝓛 ◌<◌ I k) (after_block 𝓤 H (after_seq 𝓤 H (Wp 𝓤 H 𝓣.C 𝓣.Λ E rest (post 𝓤 H q)) (post 𝓤 H q)))))
      (λ m less. again t ◌<◌ I k m less) (λ Γ. step (λ s. record { prf = s.prf })) refl) n
