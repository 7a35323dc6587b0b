-- Laws of the leader: the order in which keys are met as a list grows; and, key by key, that the leading amount is the most.
use mathlib.Core.Path.{◌≡◌, refl, sym, ap, ◌∙◌, subst}
use mathlib.Core.Logic.{◌⊎◌, inl, inr}
use mathlib.Core.Bool.{Bool, true, false, not, ◌&&◌, ◌||◌, cond}
use mathlib.Core.List.{List, [], ◌∷◌, ◌++◌}
use Prim.Native.Nat.{ℕ, zero, suc, ◌<◌}
use native.Mathlib.Nat.{not-suc-le-zero, le_of_suc-le-suc}
use native.Mathlib.Omega.{arith}
use lib.Dec.{T, eqb}
use lib.ListN.{length, get_or}
use borrow.Author.Tests.{eq-eqb, eqb-true}
use Rattle.laws.specs.Lists.{passing, fold}
use Rattle.laws.specs.Leader.{without, keys_met, Standing, nobody, leads, outdone, last_largest}
use Rattle.laws.proofs.Cases.{or_r}
use Rattle.laws.proofs.Lists.{passing-more, passing-less, passing-twice, passing-swap}

-- ---- the keys of a list
-- whether a list has the key
unfoldable pub has : ℕ → List ℕ → Bool
has key [] = false
has key (k ∷ ks) = eqb key k || has key ks

pub has-passing : (test : ℕ → Bool) (key : ℕ) (ks : List ℕ) → has key (passing test ks) ≡ (has key ks && test key)
unfolding has passing
has-passing test key [] = refl
has-passing test key (k ∷ ks) = either (has-passing test key ks) (eqb key k) refl (test k) refl
  where
    none : (b : Bool) → (b && false) ≡ false
    none true = refl
    none false = refl

    either : has key (passing test ks) ≡ (has key ks && test key) → (a : Bool) → eqb key k ≡ a → (b : Bool) → test k ≡ b → has key (cond b (k ∷ passing test ks) (passing test ks)) ≡ ((a || has key ks) && test key)
    either rest true d true e = rw (d, ap test (eqb-true key k d) ∙ e)
    either rest true d false e = rw (rest, ap test (eqb-true key k d) ∙ e) (none (has key ks))
    either rest false d true e = rw (d, rest)
    either rest false d false e = rest

pub has-met : (key : ℕ) (ks : List ℕ) → has key (keys_met ks) ≡ has key ks
unfolding has keys_met without
has-met key [] = refl
has-met key (k ∷ ks) = rw (has-passing (λ (j : ℕ). not (eqb j k)) key (keys_met ks), has-met key ks) (either (eqb key k) (has key ks))
  where
    either : (a b : Bool) → (a || (b && not a)) ≡ (a || b)
    either true b = refl
    either false true = refl
    either false false = refl

pub has-entry : (ks : List ℕ) (j d : ℕ) → j < length ks → T (has (get_or ks j d) ks)
unfolding has
has-entry [] j d h = absurd (not-suc-le-zero h)
has-entry (k ∷ ks) zero d h = rw (eq-eqb k k refl) tt
has-entry (k ∷ ks) (suc j) d h = or_r (eqb (get_or ks j d) k) (has (get_or ks j d) ks) (has-entry ks j d (le_of_suc-le-suc h))

pub has-place : (key : ℕ) (ks : List ℕ) → T (has key ks) → (j : ℕ) × (j < length ks) × (get_or ks j 0 ≡ key)
unfolding has
has-place key [] t = absurd t
has-place key (k ∷ ks) t = either (has-place key ks) (eqb key k) refl t
  where
    either : (T (has key ks) → (j : ℕ) × (j < length ks) × (get_or ks j 0 ≡ key)) → (b : Bool) → eqb key k ≡ b → T (b || has key ks) → (j : ℕ) × (j < suc (length ks)) × (get_or (k ∷ ks) j 0 ≡ key)
    either rest true e t = (0, omega arith, sym (eqb-true key k e))
    either rest false e t = let at = rest t in (suc at.0, omega (arith, at.1), at.2)

-- one key more: it is met, unless it was met before
pub met-more : (ks : List ℕ) (key : ℕ) → keys_met (ks ++ (key ∷ [])) ≡ cond (has key ks) (keys_met ks) (keys_met ks ++ (key ∷ []))
unfolding has keys_met without passing
met-more [] key = refl
met-more (k ∷ ks) key = rw (met-more ks key) (either (eqb key k) refl (has key ks))
  where
    either : (a : Bool) → eqb key k ≡ a → (b : Bool) → k ∷ without k (cond b (keys_met ks) (keys_met ks ++ (key ∷ []))) ≡ cond (a || b) (k ∷ without k (keys_met ks)) (k ∷ without k (keys_met ks) ++ (key ∷ []))
    either true e true = refl
    either true e false = ap (λ (l : List ℕ). k ∷ l) (passing-less (λ (j : ℕ). not (eqb j k)) (keys_met ks) key (ap not e))
    either false e true = refl
    either false e false = ap (λ (l : List ℕ). k ∷ l) (passing-more (λ (j : ℕ). not (eqb j k)) (keys_met ks) key (ap not e))

-- a key left out before or after
pub met-without : (key : ℕ) (ks : List ℕ) → keys_met (without key ks) ≡ without key (keys_met ks)
unfolding keys_met without passing
met-without key [] = refl
met-without key (k ∷ ks) = either (met-without key ks) (eqb k key) refl
  where
    either : keys_met (without key ks) ≡ without key (keys_met ks) → (a : Bool) → eqb k key ≡ a → keys_met (cond (not a) (k ∷ without key ks) (without key ks)) ≡ cond (not a) (k ∷ without key (without k (keys_met ks))) (without key (without k (keys_met ks)))
    either rest true e = rest ∙ sym (passing-twice _ (keys_met ks)) ∙ ap (λ (j : ℕ). without key (without j (keys_met ks))) (sym (eqb-true k key e))
    either rest false e = ap (λ (l : List ℕ). k ∷ l) (ap (without k) rest ∙ passing-swap _ _ (keys_met ks))

-- ---- who leads, over amounts that the order ranks
-- the order is total and transitive where P holds
pub record Ranks {A : Type 0} (up_to : A → A → Bool) (P : A → Type 0) : Type 0 where
  pub total : (x y : A) → P x → P y → T (up_to x y) ⊎ T (up_to y x)
  pub transitive : (x y z : A) → P x → P y → P z → T (up_to x y) → T (up_to y z) → T (up_to x z)

pub ranks-itself : {A : Type 0} (up_to : A → A → Bool) (P : A → Type 0) → Ranks up_to P → (x : A) → P x → T (up_to x x)
ranks-itself up_to P ranks x good = elim (ranks.total x x good good) [ inl t ↦ t | inr t ↦ t ]

pub ranks-other : {A : Type 0} (up_to : A → A → Bool) (P : A → Type 0) → Ranks up_to P → (x y : A) → P x → P y → up_to x y ≡ false → T (up_to y x)
ranks-other up_to P ranks x y good fine e = elim (ranks.total x y good fine) [ inl t ↦ absurd (subst T e t) | inr t ↦ t ]

-- the leader among the keys that were met: it is one of them, with its whole amount, and none of them has more
pub record Leading {A : Type 0} (up_to : A → A → Bool) (amount_of : ℕ → A) (met : ℕ → Bool) (key : ℕ) (amount : A) : Type 0 where
  pub there : T (met key)
  pub own_amount : amount ≡ amount_of key
  pub most : (j : ℕ) → T (met j) → T (up_to (amount_of j) amount)

module _ {A : Type 0} (up_to : A → A → Bool) (P : A → Type 0) (ranks : Ranks up_to P) (amount_of : ℕ → A) (good : (k : ℕ) → P (amount_of k)) where
  -- what holds of who leads among the keys that were met
  abbrev Stands : (ℕ → Bool) → Standing A → Type 0
  Stands met nobody = (j : ℕ) → T (met j) → ⊥
  Stands met (leads key amount) = Leading up_to amount_of met key amount

  stands_same : (a b : ℕ → Bool) → ((j : ℕ) → a j ≡ b j) → (s : Standing A) → Stands a s → Stands b s
  stands_same a b e nobody none = λ j t. none j (subst T (sym (e j)) t)
  stands_same a b e (leads key amount) l =
      record { there = subst T (e key) l.there; own_amount = l.own_amount; most = λ j t. l.most j (subst T (sym (e j)) t) }

  -- the next key is met: it, or one met before
  met-or : (P : ℕ → Type 0) (met : ℕ → Bool) (key : ℕ) → P key → ((j : ℕ) → T (met j) → P j) → (j : ℕ) → T (eqb j key || met j) → P j
  met-or P met key here before j t = either (eqb j key) refl t
    where
      either : (b : Bool) → eqb j key ≡ b → T (b || met j) → P j
      either true e t = subst P (sym (eqb-true j key e)) here
      either false e t = before j t

  newest : (met : ℕ → Bool) (key : ℕ) → ((j : ℕ) → T (met j) → T (up_to (amount_of j) (amount_of key))) → Leading up_to amount_of (λ (j : ℕ). eqb j key || met j) key (amount_of key)
  newest met key under =
      record {
        there = rw (eq-eqb key key refl) tt;
        own_amount = refl;
        most = met-or (λ (j : ℕ). T (up_to (amount_of j) (amount_of key))) met key (ranks-itself up_to P ranks (amount_of key) (good key)) under;
      }

  brought : (met : ℕ → Bool) (key : ℕ) (s : Standing A) → Stands met s → Stands (λ (j : ℕ). eqb j key || met j) (outdone up_to amount_of s key)
  brought met key nobody none = newest met key (λ j t. absurd (none j t))
  brought met key (leads k amount) l = decided (up_to amount (amount_of key)) refl
    where
      fair : P amount
      fair = subst P (sym l.own_amount) (good k)

      decided : (b : Bool) → up_to amount (amount_of key) ≡ b → Stands (λ (j : ℕ). eqb j key || met j) (cond b (leads key (amount_of key)) (leads k amount))
      decided true e =
          newest met key (λ j t. ranks.transitive (amount_of j) amount (amount_of key) (good j) fair (good key) (l.most j t) (subst T (sym e) tt))
      decided false e =
          record {
            there = or_r (eqb k key) (met k) l.there;
            own_amount = l.own_amount;
            most = met-or (λ (j : ℕ). T (up_to (amount_of j) amount)) met key (ranks-other up_to P ranks amount (amount_of key) fair (good key) e) l.most;
          }

  stands : (keys : List ℕ) (met : ℕ → Bool) (s : Standing A) → Stands met s → Stands (λ (j : ℕ). has j keys || met j) (fold (outdone up_to amount_of) s keys)
  unfolding has fold
  stands [] met s h = h
  stands (key ∷ keys) met s h =
      stands_same _ _ (λ j. shifted (has j keys) (eqb j key) (met j)) (fold (outdone up_to amount_of) (outdone up_to amount_of s key) keys)
      (stands keys (λ (j : ℕ). eqb j key || met j) (outdone up_to amount_of s key) (brought met key s h))
    where
      shifted : (a b c : Bool) → (a || (b || c)) ≡ ((b || a) || c)
      shifted true true c = refl
      shifted true false c = refl
      shifted false true c = refl
      shifted false false c = refl

  all-stand : (keys : List ℕ) → Stands (λ (j : ℕ). has j keys) (last_largest up_to amount_of keys)
  unfolding last_largest
  all-stand keys = stands_same _ _ (λ j. alone (has j keys)) (fold (outdone up_to amount_of) nobody keys) (stands keys (λ (j : ℕ). false) nobody (λ j t. t))
    where
      alone : (a : Bool) → (a || false) ≡ a
      alone true = refl
      alone false = refl

  pub leads-rightly : (keys : List ℕ) (key : ℕ) (amount : A) → last_largest up_to amount_of keys ≡ leads key amount → Leading up_to amount_of (λ (j : ℕ). has j keys) key amount
  leads-rightly keys key amount e = subst (Stands (λ (j : ℕ). has j keys)) e (all-stand keys)

  pub somebody-leads : (keys : List ℕ) (j : ℕ) → T (has j keys) → last_largest up_to amount_of keys ≡ nobody → ⊥
  somebody-leads keys j t e = subst (Stands (λ (j : ℕ). has j keys)) e (all-stand keys) j t

-- amounts that agree on the keys
pub outdone-same : {A : Type 0} (up_to : A → A → Bool) (a b : ℕ → A) (s : Standing A) (key : ℕ) → a key ≡ b key → outdone up_to a s key ≡ outdone up_to b s key
outdone-same up_to a b nobody key e = ap (leads key) e
outdone-same up_to a b (leads k amount) key e = rw e

pub fold_same : {A : Type 0} (up_to : A → A → Bool) (a b : ℕ → A) (keys : List ℕ) → ((k : ℕ) → T (has k keys) → a k ≡ b k) → (s : Standing A) → fold (outdone up_to a) s keys ≡ fold (outdone up_to b) s keys
unfolding fold has
fold_same up_to a b [] same s = refl
fold_same up_to a b (key ∷ keys) same s =
    ap (λ (x : Standing _). fold (outdone up_to a) x keys) (outdone-same up_to a b s key (same key (rw (eq-eqb key key refl) tt)))
    ∙ fold_same up_to a b keys (λ k t. same k (or_r (eqb k key) (has k keys) t)) (outdone up_to b s key)
