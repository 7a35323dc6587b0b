-- The key that leads: the keys of a list in the order in which they are first met, and of those the one with the largest amount, the last of equals.
-- So the Rust does it: a list of keys with amounts that grows as keys are met, and `max_by` over that list. Definitions only.
use Rattle.std.specs.Prelude.{ℕ, Bool, not, cond, List, [], ◌∷◌, eqb}
use Rattle.laws.specs.Lists.{passing, fold}

-- a list without one of its keys
unfoldable pub without : ℕ → List ℕ → List ℕ
without key = passing (λ (k : ℕ). not (eqb k key))

-- the keys of a list in the order in which they are first met, each once
unfoldable pub keys_met : List ℕ → List ℕ
keys_met [] = []
keys_met (key ∷ keys) = key ∷ without key (keys_met keys)

-- who leads so far, with which amount
pub data Standing (A : Type 0) : Type 0 where
  nobody : Standing A
  leads : ℕ → A → Standing A

-- the leading key, d where nobody leads
abbrev pub leading_key : {A : Type 0} → ℕ → Standing A → ℕ
leading_key d nobody = d
leading_key d (leads key amount) = key

-- the next key takes the lead unless the leading amount is above its own
abbrev pub outdone : {A : Type 0} → (A → A → Bool) → (ℕ → A) → Standing A → ℕ → Standing A
outdone up_to amount_of nobody key = leads key (amount_of key)
outdone up_to amount_of (leads k a) key = cond (up_to a (amount_of key)) (leads key (amount_of key)) (leads k a)

-- of keys with their amounts, the last of the largest: Rust's `max_by`
unfoldable pub last_largest : {A : Type 0} → (A → A → Bool) → (ℕ → A) → List ℕ → Standing A
last_largest up_to amount_of keys = fold (outdone up_to amount_of) nobody keys
