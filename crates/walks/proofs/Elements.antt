-- An element type of plain data, the two functions that reach into a slice of it, and their calls in a walk.
--     Element          the type, the one machine value of an element, and what a read past the end of a list gives
--     Read, Write      `fn read_at(s: &[T], i: usize) -> T` and `fn write_at(s: &mut [T], i: usize, x: T)`, as `Looks.antt` and `Rows.antt` state them
--     calls-read       the row is as it was, and element i is what lands.        calls-write      element i of the row is x
use mathlib.Core.Path.{◌≡◌, refl, sym, ap, subst}
use Prim.Native.Nat.{ℕ, ◌<◌, ◌^◌}
use mathlib.Core.List.{List, [], ◌∷◌, ◌++◌}
use lib.ListN.{length, get_or, set}
use seplogic.Ra.Ura.{Ura}
use base.Fraction.{full_share}
use mir.Syntax.{Callee, Place, Opd as Operand, Body, w64, seq, call}
use mir.Val.{Val, vunit, vint}
use base.Fml.{Share}
use prog.Wp.{Env, Calls, Loops}
use types.Logic.{Logic}
use sound.WpLaws.{FmC}
use types.Kit.{Item, ‵, Post, runs, lands, Seq, Step, step}
use types.Run.{Opds}
use denote.RattleType.{RattleType}
use denote.Copied.{Copied}
use denote.Laws.{Is}
use denote.Slice.{slice_val, Room}
use denote.Index.{row}
use Rattle.walks.proofs.Plain.{Plain, number}
use Rattle.walks.proofs.Rows as Rows
use Rattle.walks.proofs.Rows.{Change, task}
use Rattle.walks.proofs.Looks as Looks
use Rattle.walks.proofs.Looks.{Look}
use Rattle.walks.proofs.Calls.{calls-change, calls-told}

pub record Element : Type 2 where
  pub plain : Plain
  pub val : plain.type.Denot → Val
  pub one : (x : plain.type.Denot) → plain.vals x ≡ val x ∷ []
  pub past : plain.type.Denot
  pub copied : (M : Type 1) (𝓤 : Ura M) (𝓛 : Logic 𝓤) → Copied 𝓛 plain.type

module _ (e : Element) where
  abbrev pub Row : RattleType
  Row = e.plain.type

  abbrev pub Read : Look Row
  Read = record { params = number ∷ []; result = e.plain; asks = λ κs ys a. a.0 < length ys; promises = λ κs ys a r. r ≡ get_or ys a.0 e.past }

  abbrev pub Write : Change Row
  Write = record { params = number ∷ e.plain ∷ []; asks = λ κs ys a. a.0 < length ys; becomes = λ κs ys a. set ys a.0 a.1.0 }

module _ {M : Type 1} {𝓤 : Ura M} {𝓛 : Logic 𝓤} {K : Type 0} {Γ : List (Item 𝓤)} {E : Env 𝓤 𝓛.H} {C : Calls 𝓤 𝓛.H} {Λ : Loops 𝓤 𝓛.H} {q : Post 𝓤 𝓛.H} {f : Callee} {xs : List Operand} {d : Place} {rest : Body} where
  open 𝓛 use {H}

  pub calls-read : K → FmC 𝓤 H 𝓛.laws C → (e : Element) → Looks.Knows (Read e) 𝓛 (C f) → (s : Share) (b o n : ℕ) (ys : List (Row e).Denot) → length ys ≡ n → Room (Row e) n → (i : ℕ) → i < 2 ^ 64 → i < length ys
      → Opds K 𝓛 (‵ (row (Row e) s ys b o) ∷ Γ) E xs (slice_val (b, o) n ∷ vint w64 i ∷ [])
      → (Is (Row e) (get_or ys i e.past) (e.val (get_or ys i e.past) ∷ []) → Seq K 𝓛 (‵ (row (Row e) s ys b o) ∷ Γ) (lands C Λ E d (e.val (get_or ys i e.past)) rest q))
      → Seq K 𝓛 (‵ (row (Row e) s ys b o) ∷ Γ) (runs C Λ E (seq (call f xs d) rest) q)
  calls-read t fm e known s b o n ys len room i fits within os k = calls-told t fm (e.copied M 𝓤 𝓛) (Read e) known e.val e.one s b o n ys len room (λ _. (i, tt)) (λ _. ((refl, fits), tt)) (λ _. within) (λ r. r ≡ get_or ys i e.past) (λ _ _ p. p) (vint w64 i ∷ []) (λ _. refl) os (λ r is p.
      subst (λ (z : (Row e).Denot). Is (Row e) z (e.val z ∷ []) → Seq K 𝓛 (‵ (row (Row e) s ys b o) ∷ Γ) (lands C Λ E d (e.val z) rest q)) (sym p) k is)

  pub calls-write : K → FmC 𝓤 H 𝓛.laws C → (e : Element) → Rows.Knows (task (Write e)) 𝓛 (C f) → (b o n : ℕ) (ys : List (Row e).Denot) → length ys ≡ n → Room (Row e) n → (i : ℕ) → i < 2 ^ 64 → i < length ys → (x : (Row e).Denot) → Is (Row e) x (e.val x ∷ [])
      → Opds K 𝓛 (‵ (row (Row e) full_share ys b o) ∷ Γ) E xs (slice_val (b, o) n ∷ vint w64 i ∷ e.val x ∷ [])
      → Step K 𝓛 (‵ (row (Row e) full_share (set ys i x) b o) ∷ Γ) (lands C Λ E d vunit rest q) (‵ (row (Row e) full_share ys b o) ∷ Γ) (runs C Λ E (seq (call f xs d) rest) q)
  calls-write t fm e known b o n ys len room i fits within x is os = step (λ k. calls-change t fm (Write e) known b o n ys len room (λ _. (i, (x, tt))) (λ _. ((refl, fits), (subst (Is (Row e) x) (sym (e.one x)) is, tt))) (λ _. within) (set ys i x) (λ _. refl)
      (vint w64 i ∷ e.val x ∷ []) (λ _. ap (λ (vs : List Val). vint w64 i ∷ vs ++ []) (e.one x)) os (λ _. k))
