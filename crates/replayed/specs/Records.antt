-- Stored answers of the Rust, record by record: 41 numbers of 32 bits, lowest byte first. Definitions only.
use Rattle.std.specs.Prelude.{ℕ, ◌+◌, ◌*◌, Bool, true, not, ◌&&◌, cond, List, eqb, get_or, Float}
use Rattle.std.specs.Float.{nan, binary32}
use Rattle.std.specs.Float.Ieee.{of_bits}
use Rattle.laws.specs.Turns.{turns}
use Rattle.laws.specs.Front.{list}
use Rattle.laws.specs.Order.{order_key}
use Rattle.numbers.specs.Flags.{one_if}
use Rattle.keys.specs.Numbers.{key_number}
use Rattle.key_choice.specs.declared.classify.Classified.{Classified}
use Rattle.key_choice.specs.Classify.{certainty_of, classified_of}

-- the number of 32 bits that starts at a byte
unfoldable pub word_at : List ℕ → ℕ → ℕ
word_at bytes at = get_or bytes at 0 + get_or bytes (at + 1) 0 * 0x100 + get_or bytes (at + 2) 0 * 0x1_0000 + get_or bytes (at + 3) 0 * 0x100_0000

-- the value of the pattern that starts at a byte
unfoldable pub value_at : List ℕ → ℕ → Float
value_at bytes at = of_bits binary32 (word_at bytes at)

-- the same order key, which tells values apart
abbrev pub same_value : Float → Float → Bool
same_value a b = eqb (order_key binary32 a) (order_key binary32 b)

-- the record's first twelve numbers
unfoldable pub chroma_at : List ℕ → ℕ → List Float
chroma_at bytes start = list (λ (i : ℕ). value_at bytes (start + 4 * i)) 12

-- the next 24
abbrev pub score_turn : List ℕ → ℕ → List Float → ℕ → Bool → Bool
score_turn bytes start scores k same = same && same_value (get_or scores k nan) (value_at bytes (start + 48 + 4 * k))

-- whether all 24 are the scores
unfoldable pub same_scores : List ℕ → ℕ → List Float → Bool
same_scores bytes start scores = turns (score_turn bytes start scores) 24 0 true

-- the last five
unfoldable pub same_key : List ℕ → ℕ → Classified → Bool
same_key bytes start c =
    eqb (key_number c.key) (word_at bytes (start + 144))
    && same_value c.best (value_at bytes (start + 148))
    && same_value c.second (value_at bytes (start + 152))
    && same_value (certainty_of c) (value_at bytes (start + 156))
    && eqb (one_if c.shapeless) (word_at bytes (start + 160))

-- whether the record's answers are those of a classified chroma
abbrev pub judges : List ℕ → ℕ → Classified → Bool
judges bytes start c = same_scores bytes start c.scores && same_key bytes start c

-- whether the record's answers are those of its chroma
unfoldable pub agrees : List ℕ → ℕ → Bool
agrees bytes start = judges bytes start (classified_of (chroma_at bytes start))

-- one record more
abbrev pub record_turn : List ℕ → ℕ → ℕ → ℕ
record_turn bytes n differ = cond (not (agrees bytes (n * 164))) (differ + 1) differ

-- how many of the first records say something else
unfoldable pub differing : List ℕ → ℕ → ℕ
differing bytes count = turns (record_turn bytes) count 0 0
