-- Only for the code's own steps: no promise names it. The constant-Q chromas of eight frame positions, a hop apart, each by its own definition. Definitions only.
use Rattle.std.specs.Prelude.{◌≡◌, ℕ, ◌+◌, ◌-◌, ◌*◌, ◌/◌, ◌≤◌, Bool, true, ◌&&◌, List, [], leb, length, get_or, Float}
use Rattle.std.specs.Float.{nan}
use Rattle.laws.specs.Front.{list}
use Rattle.laws.specs.Every.{every_entry}
use Rattle.calls.specs.Call.{Sheet}
use Rattle.sheets.specs.Sheet.{joined_length}
use Rattle.filters.specs.Classes.{no_sums, class_added}
use Rattle.constant_q.specs.ConstantQ.{constant_q_of}

-- the centre of position j, counted from the one with this centre
abbrev pub later_centre : ℕ → ℕ → ℕ → ℕ
later_centre centre hop j = centre + j * hop

-- a window of this size lies whole on the track at eight positions: at the first it begins there, and at the last there is room for it
unfoldable pub whole_at : ℕ → ℕ → ℕ → ℕ → Bool
whole_at samples centre hop size = leb (size / 2) centre && leb size (samples - (centre - size / 2 + 7 * hop))

-- so do the windows of all rows
unfoldable pub all_whole : ℕ → ℕ → ℕ → List ℕ → Bool
all_whole samples centre hop lengths = every_entry (whole_at samples centre hop) 0 lengths

-- what a block is written from: eight centres on the track, windows that end where they must, and all of them whole
pub record Inside (samples centre hop : ℕ) (lengths : List ℕ) (coefficients : List Float) (end : ℕ) : Type 0 where
  pub near : centre + 7 * hop ≤ samples
  pub tuned : length lengths ≤ length coefficients
  pub few : length lengths ≤ 256
  pub joined : joined_length lengths (length lengths) ≡ end
  pub whole : all_whole samples centre hop lengths ≡ true

-- before the first row
unfoldable pub empty_block : List (List Float)
empty_block = list (λ (j : ℕ). no_sums) 8

-- the powers of row k are added, one to each position's sums
unfoldable pub row_added : ℕ → ℕ → List Float → List (List Float) → List (List Float)
row_added lowest k powers block = list (λ (j : ℕ). class_added lowest k (get_or powers j nan) (get_or block j [])) 8

-- the chromas of eight positions
unfoldable pub chromas_of : Sheet → List Float → ℕ → ℕ → List (List Float)
chromas_of s samples centre hop = list (λ (j : ℕ). constant_q_of s samples (later_centre centre hop j)) 8
