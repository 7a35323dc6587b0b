-- The outcome of a call that writes into lent bytes. Definitions only.
use Rattle.std.specs.Prelude.{Bool, List, [], ◌∷◌, ℕ, ltb, length}
use Rattle.laws.specs.Front.{front}
use Rattle.laws.specs.Table.{◌gives◌, first_of}
use Rattle.written.specs.declared.Written.{Written}

-- the call's answer: 01's number, or 0, and how many bytes were written
abbrev pub answered : ℕ → ℕ → Written
answered refusal count = record { refusal = refusal; length = count }

-- what the call answers, and what it leaves in the lent bytes
pub record BytesOutcome : Type 0 where
  pub answer : Written
  pub bytes : List ℕ

-- both together
abbrev pub bytes_outcome : Written → List ℕ → BytesOutcome
bytes_outcome answer bytes = record { answer = answer; bytes = bytes }

-- 11 where nothing can be written and 12 for too few bytes leave the bytes as they are; else what is written stands at their front
abbrev pub written_as : Bool → List ℕ → List ℕ → BytesOutcome
written_as unwritable content bytes =
    first_of
    ((unwritable gives bytes_outcome (answered 11 0) bytes)
    ∷ (ltb (length bytes) (length content) gives bytes_outcome (answered 12 0) bytes)
    ∷ [])
    (bytes_outcome (answered 0 (length content)) (front content bytes))
