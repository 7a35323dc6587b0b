-- Only for the code's own steps: no promise names it. Constant-Q chromas that are computed ahead, a block of positions at a time. Definitions only.
use Rattle.std.specs.Prelude.{◌≡◌, ℕ, ◌+◌, ◌*◌, ◌<◌, ◌≤◌, List, [], length, get_or, Float}
use Rattle.calls.specs.Call.{Sheet}
use Rattle.sheets.specs.Sheet.{joined_length}
use Rattle.constant_q.specs.ConstantQ.{constant_q_of}
use Rattle.blocks.specs.declared.stock.Held.{Held}
use Rattle.blocks.specs.declared.stock.Handed.{Handed}

-- the centre of position k: its frame begins after k hops, and half of it comes before the centre
abbrev pub middle_at : ℕ → ℕ → ℕ → ℕ
middle_at half hop k = k * hop + half

-- the chroma of position k
abbrev pub constant_at : Sheet → List Float → ℕ → ℕ → ℕ → List Float
constant_at s samples half hop k = constant_q_of s samples (middle_at half hop k)

-- every position's centre lies on a track of so many samples
pub record Centred (samples half hop positions : ℕ) : Type 0 where
  pub on : (k : ℕ) → k < positions → middle_at half hop k ≤ samples

-- rows as a well-formed sheet has them
pub record Tuned (lengths : List ℕ) (coefficients : List Float) (end : ℕ) : Type 0 where
  pub alike : length lengths ≡ length coefficients
  pub few : length lengths ≤ 256
  pub joined : joined_length lengths (length lengths) ≡ end

-- entry j of the block is the chroma of position first + j, for each position that is held
pub record Stock (chroma : ℕ → List Float) (held : Held) (block : List (List Float)) : Type 0 where
  pub long : length block ≡ 8
  pub few : held.count ≤ 8
  pub entries : (j : ℕ) → j < held.count → get_or block j [] ≡ chroma (held.first + j)

-- the block was filled for position k: it holds that one, and perhaps some more
pub record FilledFrom (chroma : ℕ → List Float) (k : ℕ) (held : Held) (block : List (List Float)) : Type 0 where
  pub stock : Stock chroma held block
  pub first : held.first ≡ k
  pub some : 0 < held.count

-- the chroma of position k was handed out of the block, which still holds what it says
pub record HandedOut (chroma : ℕ → List Float) (k : ℕ) (h : Handed) (block : List (List Float)) : Type 0 where
  pub told : h.chroma ≡ chroma k
  pub stock : Stock chroma h.held block
  pub begun : h.held.first ≤ k
