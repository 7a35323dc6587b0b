-- A loop that notes each key of a list where it is first met: what the order of the keys and the marks of the known ones hold after each key,
-- and that a new key finds a place, since as many places are left as there are marks not set.
use mathlib.Core.Path.{◌≡◌, refl, sym, ap, ◌∙◌, subst}
use mathlib.Core.Bool.{Bool, true, false, ◌||◌, cond}
use mathlib.Core.List.{List, [], ◌∷◌, ◌++◌}
use Prim.Native.Nat.{ℕ, zero, suc, ◌+◌, ◌<◌, ◌≤◌}
use native.Mathlib.Nat.{zero-add, not-suc-le-zero, le_of_suc-le-suc}
use native.Mathlib.Omega.{arith}
use lib.Dec.{T, eqb}
use lib.ListN.{length, get_or, set, replicate, length-append, length-replicate, get_or-append}
use lib.Seq.{slice, take-append_seam}
use borrow.Author.Tests.{eq-eqb, ne_eqb, eqb-true, eqb-false}
use Rattle.laws.specs.Front.{front, list}
use Rattle.laws.specs.Leader.{keys_met}
use Rattle.laws.proofs.Front.{list_same, list_set, list-own, replicate-list, length-list, front-more, get_or-list}
use Rattle.laws.proofs.Leader.{has, has-met, has-entry, met-more}

-- how many marks are not set
unfoldable pub unset : List Bool → ℕ
unset [] = 0
unset (b ∷ bs) = cond b (unset bs) (suc (unset bs))

unset-all : (n : ℕ) → unset (replicate n false) ≡ n
unfolding unset
unset-all zero = refl
unset-all (suc n) = ap suc (unset-all n)

unset-less : (marks : List Bool) (k : ℕ) (d : Bool) → k < length marks → get_or marks k d ≡ false → suc (unset (set marks k true)) ≡ unset marks
unfolding unset
unset-less [] k d h e = absurd (not-suc-le-zero h)
unset-less (b ∷ bs) zero d h e = rw e
unset-less (b ∷ bs) (suc k) d h e = either b (unset-less bs k d (le_of_suc-le-suc h) e)
  where
    either : (b : Bool) → suc (unset (set bs k true)) ≡ unset bs → suc (cond b (unset (set bs k true)) (suc (unset (set bs k true)))) ≡ cond b (unset bs) (suc (unset bs))
    either true rest = rest
    either false rest = ap suc rest

or-none : (a : Bool) → (a || false) ≡ a
or-none true = refl
or-none false = refl

has_more : (j : ℕ) (ks : List ℕ) (key : ℕ) → has j (ks ++ (key ∷ [])) ≡ (has j ks || eqb j key)
unfolding has
has_more j [] key = or-none (eqb j key)
has_more j (k ∷ ks) key = rw (has_more j ks key) (joined (eqb j k))
  where
    joined : (a : Bool) → (a || (has j ks || eqb j key)) ≡ ((a || has j ks) || eqb j key)
    joined true = refl
    joined false = refl

-- the key itself, and another one
has_last : (ks : List ℕ) (key : ℕ) → has key (ks ++ (key ∷ [])) ≡ true
has_last ks key = has_more key ks key ∙ ap (λ (b : Bool). has key ks || b) (eq-eqb key key refl) ∙ either (has key ks)
  where
    either : (a : Bool) → (a || true) ≡ true
    either true = refl
    either false = refl

has_other : (ks : List ℕ) (key j : ℕ) → (j ≡ key → ⊥) → has j ks ≡ has j (ks ++ (key ∷ []))
has_other ks key j apart = sym (has_more j ks key ∙ ap (λ (b : Bool). has j ks || b) (ne_eqb j key apart) ∙ or-none (has j ks))

-- of n keys, these were met so far: their order, the marks of the known ones, how many they are
pub record Meets (n : ℕ) (keys order : List ℕ) (known : List Bool) (met : ℕ) : Type 0 where
  pub order_is : order ≡ front (keys_met keys) (replicate n 0)
  pub met_is : met ≡ length (keys_met keys)
  pub known_is : known ≡ list (λ (k : ℕ). has k keys) n
  pub left : met + unset known ≡ n

module _ (n : ℕ) where
  pub meets-start : Meets n [] (replicate n 0) (replicate n false) 0
  unfolding keys_met has
  meets-start = record { order_is = refl; met_is = refl; known_is = replicate-list n false; left = rw (unset-all n) (zero-add n) }

  module _ (keys order : List ℕ) (known : List Bool) (met : ℕ) (m : Meets n keys order known met) where
    known-long : length known ≡ n
    known-long = ap length m.known_is ∙ length-list _ n

    module _ (key : ℕ) (below : key < n) where
      pub known-told : (d : Bool) → get_or known key d ≡ has key keys
      known-told d = ap (λ (l : List Bool). get_or l key d) m.known_is ∙ get_or-list (λ (k : ℕ). has k keys) n key d below

      module _ (d : Bool) (new : get_or known key d ≡ false) where
        fewer : suc (unset (set known key true)) ≡ unset known
        fewer = unset-less known key d (rw known-long below) new

        pub new-fits : met < n
        new-fits = omega (arith, m.left, fewer)

        pub meets-new : Meets n (keys ++ (key ∷ [])) (set order met key) (set known key true) (met + 1)
        meets-new =
            let unknown : has key keys ≡ false = sym (known-told d) ∙ new in
            let grown : keys_met (keys ++ (key ∷ [])) ≡ keys_met keys ++ (key ∷ []) = met-more keys key ∙ ap (λ (b : Bool). cond b (keys_met keys) (keys_met keys ++ (key ∷ []))) unknown in
            record {
              order_is = rw (m.order_is, m.met_is, grown) (front-more (keys_met keys) (replicate n 0) key (rw length-replicate (omega (arith, new-fits, m.met_is))));
              met_is = rw (grown, length-append) (ap (λ (k : ℕ). k + 1) m.met_is);
              known_is = ap (λ (l : List Bool). set l key true) m.known_is ∙ list_set _ (λ (k : ℕ). has k (keys ++ (key ∷ []))) n key true below (sym (has_last keys key)) (has_other keys key);
              left = omega (arith, m.left, fewer);
            }

      pub meets-known : (d : Bool) → get_or known key d ≡ true → Meets n (keys ++ (key ∷ [])) order known met
      meets-known d e =
          let there : has key keys ≡ true = sym (known-told d) ∙ e in
          let same : keys_met (keys ++ (key ∷ [])) ≡ keys_met keys = met-more keys key ∙ ap (λ (b : Bool). cond b (keys_met keys) (keys_met keys ++ (key ∷ []))) there in
          record {
            order_is = rw same m.order_is;
            met_is = rw same m.met_is;
            known_is = m.known_is ∙ list_same _ (λ (k : ℕ). has k (keys ++ (key ∷ []))) n (λ k h. either there k (eqb k key) refl);
            left = m.left;
          }
        where
          either : has key keys ≡ true → (k : ℕ) (b : Bool) → eqb k key ≡ b → has k keys ≡ has k (keys ++ (key ∷ []))
          either there k true e =
              let own = eqb-true k key e in
              ap (λ (j : ℕ). has j keys) own ∙ there ∙ sym (has_last keys key) ∙ ap (λ (j : ℕ). has j (keys ++ (key ∷ []))) (sym own)
          either there k false e = has_other keys key k (eqb-false k key e)

-- ---- when all keys were met
-- a list's keys noted one after the other
record Noted (n : ℕ) (keys : List ℕ) : Type 0 where
  order : List ℕ
  known : List Bool
  met : ℕ
  meets : Meets n keys order known met

noted_more : (n : ℕ) (keys : List ℕ) (key : ℕ) → key < n → Noted n keys → Noted n (keys ++ (key ∷ []))
noted_more n keys key below t = either (get_or t.known key false) refl
  where
    either : (b : Bool) → get_or t.known key false ≡ b → Noted n (keys ++ (key ∷ []))
    either true e = record { order = t.order; known = t.known; met = t.met; meets = meets-known n keys t.order t.known t.met t.meets key below false e }
    either false e = record { order = set t.order t.met key; known = set t.known key true; met = t.met + 1; meets = meets-new n keys t.order t.known t.met t.meets key below false e }

noted : (n : ℕ) (f : ℕ → ℕ) (i : ℕ) → ((j : ℕ) → j < i → f j < n) → Noted n (list f i)
unfolding list
noted n f zero below = record { order = replicate n 0; known = replicate n false; met = 0; meets = meets-start n }
noted n f (suc i) below = noted_more n (list f i) (f i) (below i (omega arith)) (noted n f i (λ j h. below j (omega (arith, h))))

-- of n keys no more than n are met
pub met-few : (n : ℕ) (keys : List ℕ) → ((j : ℕ) → j < length keys → get_or keys j 0 < n) → length (keys_met keys) ≤ n
met-few n keys below =
    let t = noted n (λ (j : ℕ). get_or keys j 0) (length keys) below in
    let count = t.meets.met_is ∙ ap (λ (l : List ℕ). length (keys_met l)) (list-own keys 0) in
    omega (arith, count, t.meets.left)

module _ (keys m : List ℕ) where
  -- the keys that were met, read back from their order
  pub met-back : slice 0 (length (keys_met keys)) (front (keys_met keys) m) ≡ keys_met keys
  met-back = take-append_seam (keys_met keys) _

  pub met-below : (n : ℕ) → ((k : ℕ) → T (has k keys) → k < n) → (j d : ℕ) → j < length (keys_met keys) → get_or (front (keys_met keys) m) j d < n
  met-below n below j d h =
      let at = get_or-append (keys_met keys) _ d j h in
      subst (λ (k : ℕ). k < n) (sym at) (below (get_or (keys_met keys) j d) (subst T (has-met (get_or (keys_met keys) j d) keys) (has-entry (keys_met keys) j d h)))
