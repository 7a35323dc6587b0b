-- Calls on a set, one after the other. Definitions only.
use Rattle.std.specs.Prelude.{ℕ, ◌+◌, Bool, ◌&&◌, cond, List, [], ◌∷◌, eqb}
use Rattle.set_calls.specs.Sets.{CardSet, SetOutcome, add_call, remove_call}

-- a call with its card: `ulyptesh_add_card`, or `ulyptesh_remove_card`
pub data SetCall : Type 0 where
  adding : List ℕ → SetCall
  removing : List ℕ → SetCall

-- what comes of it
abbrev pub set_outcome_of : SetCall → CardSet → SetOutcome
set_outcome_of (adding card) s = add_call card s
set_outcome_of (removing card) s = remove_call card s

-- it is not refused
abbrev pub is_done : SetOutcome → Bool
is_done o = eqb o.answer.refusal 0

-- the set after several calls, each on what the one before has left
abbrev pub after_all : List SetCall → CardSet → CardSet
after_all [] s = s
after_all (c ∷ cs) s = after_all cs (set_outcome_of c s).left

-- how many of several calls are of a kind and are not refused
abbrev pub done_of : (SetCall → Bool) → List SetCall → CardSet → ℕ
done_of kind [] s = 0
done_of kind (c ∷ cs) s = cond (kind c && is_done (set_outcome_of c s)) 1 0 + done_of kind cs (set_outcome_of c s).left
