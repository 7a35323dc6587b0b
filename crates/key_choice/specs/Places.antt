-- First and second place among the keys, written from the Rust's `classify_key_impl`. Definitions only.
use Rattle.std.specs.Prelude.{ℕ, ◌+◌, ◌*◌, ◌/◌, ◌%◌, true, cond, List, get_or, Float}
use Rattle.std.specs.Float.{nan, inf}
use Rattle.std.specs.Float.Ieee.{lt}
use Rattle.laws.specs.Turns.{turns}
use Rattle.keys.specs.Numbers.{key_at}
use Rattle.key_choice.specs.declared.places.Place.{Place}
use Rattle.key_choice.specs.declared.places.Places.{Places}

-- two places
abbrev pub ranked : Place → Place → Places
ranked first second = record { first = first; second = second }

-- one key more: a place is taken by a strictly higher score
unfoldable pub placed : Places → Place → Places
placed p candidate =
    cond (lt p.first.score candidate.score) (ranked candidate p.first)
    (cond (lt p.second.score candidate.score) (ranked p.first candidate)
    p)

-- the key that is tried in a turn: roots upward, major before minor
abbrev pub number_at : ℕ → ℕ
number_at turn = 12 * (turn % 2) + turn / 2

-- that key with its score
unfoldable pub candidate_at : List Float → ℕ → Place
candidate_at scores turn = record { key = key_at (number_at turn); score = get_or scores (number_at turn) nan }

-- C major without a score, which every score but -∞ and a NaN is above
abbrev pub unscored : Place
unscored = record { key = key_at 0; score = inf true }

-- both places after all 24 keys
unfoldable pub places_of : List Float → Places
places_of scores = turns (λ (turn : ℕ) (p : Places). placed p (candidate_at scores turn)) 24 0 (ranked unscored unscored)
