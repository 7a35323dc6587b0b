-- The totals stay those of the cards in the set, and fit their type. The statements; proofs/TotalsStay.antt proves them.
use Rattle.std.specs.Prelude.{◌≡◌, true, false, List, ℕ, ◌*◌, ◌^◌, ◌<◌, ◌≤◌, get_or, replicate}
use Rattle.card.specs.Layout.{last_end}
use Rattle.set_places.specs.Places.{places, set_size}
use Rattle.set_totals.specs.Summary.{summary_of, numbers_of}
use Rattle.set_calls.specs.Sets.{CardSet, untrue}
use Rattle.set_history.specs.Calls.{SetCall, set_outcome_of, is_done, after_all}

-- the numbers are those worked out afresh from the cards now in the set, and the next call takes it as true
pub record Summed (s : CardSet) : Type 0 where
  pub afresh : s.numbers ≡ numbers_of (summary_of s.bytes)
  pub stays_true : untrue s ≡ false

-- an empty set: zeros
abbrev pub empty_set : CardSet
empty_set = record { bytes = replicate set_size 0; numbers = replicate 26 0 }

-- so it is after a call that is not refused, whatever was lent; after any calls, refused ones among them, from a set with its own summary; and from an empty one. A refused call changes nothing.
pub record TotalsStay : Type 0 where
  pub once : (c : SetCall) (s : CardSet) → is_done (set_outcome_of c s) ≡ true → Summed (set_outcome_of c s).left
  pub always : (cs : List SetCall) (s : CardSet) → untrue s ≡ false → Summed (after_all cs s)
  pub from_empty : (cs : List SetCall) → Summed (after_all cs empty_set)
  pub refused_keeps : (c : SetCall) (s : CardSet) → is_done (set_outcome_of c s) ≡ false → (set_outcome_of c s).left ≡ s

-- of any bytes no number of the summary is above 1,024 days in ms, which 64 bits hold
pub record TotalsFit : Type 0 where
  pub limited : (bytes : List ℕ) (k : ℕ) → get_or (numbers_of (summary_of bytes)) k 0 ≤ places * last_end
  pub held : places * last_end < 2 ^ 64
