-- Document 01's sixteen rows, a to p, each as a test of the definitions that the checker computes. Definitions and the statement.
use Rattle.std.specs.Prelude.{ℕ, Bool, true, false, not, ◌&&◌, List, [], ◌∷◌, ◌++◌, T, eqb, pos, length, get_or, replicate, Float, Option}
use Rattle.std.specs.Float.{nan, binary32, binary64}
use Rattle.std.specs.Float.Ieee.{is_nan, of_int, of_bits, to_bits}
use Rattle.laws.specs.Every.{every}
use Rattle.laws.specs.Values.{plus_zero, one, a_half}
use Rattle.keys.specs.Numbers.{key_number, key_at, same_key}
use Rattle.timeline.specs.declared.estimate.Estimate.{Estimate}
use Rattle.timeline.specs.declared.segment.Segment.{Segment}
use Rattle.timeline.specs.Segments.{segment, emptied}
use Rattle.timeline.specs.inside.Segments.{segment_rows}
use Rattle.majorities.specs.Majority.{majority_of}
use Rattle.groups.specs.Groups.{groups_of}
use Rattle.shortening.specs.Shorten.{shortened_of}
use Rattle.alternates.specs.declared.alternate.Alternate.{Alternate}
use Rattle.alternates.specs.Alternate.{alternate_of, alternate_number, alternate_coverage}
use Rattle.chroma.specs.Shift.{shifted_of}
use Rattle.card.specs.Rules.{no_key}
use Rattle.card_judge.specs.Analysed.{Analysis, analysis, unwritable}
use Rattle.card_call.specs.Answered.{card_of_answer}
use Rattle.card_call.specs.Cards.{card_of}
use Rattle.answers.specs.Answer.{keyless}
use Rattle.key_choice.specs.declared.classify.Classified.{Classified}
use Rattle.key_choice.specs.Classify.{confidence_of, classified_of}

-- a row: its letter in ASCII, and whether it holds
pub record Row : Type 0 where
  pub letter : ℕ
  pub holds : Bool

-- two lists are as long as each other, and their entries pass a test pair by pair; d is read nowhere
abbrev pub pairwise : {A : Type 0} → (A → A → Bool) → A → List A → List A → Bool
pairwise test d xs ys = eqb (length xs) (length ys) && every (λ (k : ℕ). test (get_or xs k d) (get_or ys k d)) (length xs)

-- ---- a and b: the majority of key numbers
-- most are this one
abbrev pub most_are : List ℕ → ℕ → Bool
most_are numbers number = eqb (majority_of numbers) number

-- equal counts: the one first met last
unfoldable pub row_a : Row
row_a = record { letter = 97; holds = most_are (0 ∷ 7 ∷ 7 ∷ 0 ∷ []) 7 }

-- the same the other way round
unfoldable pub row_b : Row
row_b = record { letter = 98; holds = most_are (7 ∷ 0 ∷ 0 ∷ 7 ∷ []) 0 }

-- ---- c to g: segments shortened
-- so many seconds
abbrev pub whole : ℕ → Float
whole n = of_int binary64 (pos n)

-- [start, end) key, of confidence 0, resting on so many windows (02 §7)
abbrev pub part : ℕ → ℕ → ℕ → ℕ → Segment
part start end number windows = segment (whole start) (whole end) (key_at number) plus_zero windows

-- two times are equal, by their patterns
abbrev pub same_time : Float → Float → Bool
same_time x y = eqb (to_bits binary64 x) (to_bits binary64 y)

-- two segments have the same start, end and key, and rest on as many windows
abbrev pub same_segment : Segment → Segment → Bool
same_segment s t = same_time s.start t.start && same_time s.end t.end && same_key s.key t.key && eqb s.windows t.windows

-- two lists of segments do
abbrev pub same_segments : List Segment → List Segment → Bool
same_segments = pairwise same_segment emptied

-- with a minimum of 12 s, the segments become these
abbrev pub shortens : List Segment → List Segment → Bool
shortens before after = same_segments (shortened_of (whole 12) before) after

-- the first is short: it joins the second, and keeps its own key
unfoldable pub row_c : Row
row_c = record { letter = 99; holds = shortens (part 0 10 0 1 ∷ part 10 40 7 2 ∷ part 40 70 9 4 ∷ []) (part 0 40 0 3 ∷ part 40 70 9 4 ∷ []) }

-- neighbours as long as each other: the earlier one
unfoldable pub row_d : Row
row_d = record { letter = 100; holds = shortens (part 0 30 0 1 ∷ part 30 40 7 2 ∷ part 40 70 9 4 ∷ []) (part 0 40 0 3 ∷ part 40 70 9 4 ∷ []) }

-- the later neighbour is longer, and the short one's key stays
unfoldable pub row_e : Row
row_e = record { letter = 101; holds = shortens (part 0 20 0 1 ∷ part 20 30 7 2 ∷ part 30 70 9 4 ∷ []) (part 0 20 0 1 ∷ part 20 70 7 6 ∷ []) }

-- the last is short
unfoldable pub row_f : Row
row_f = record { letter = 102; holds = shortens (part 0 30 0 1 ∷ part 30 40 7 2 ∷ []) (part 0 40 0 3 ∷ []) }

-- none is shorter than the minimum
unfoldable pub row_g : Row
row_g = record { letter = 103; holds = shortens (part 0 12 0 1 ∷ part 12 24 7 2 ∷ []) (part 0 12 0 1 ∷ part 12 24 7 2 ∷ []) }

-- ---- h to j: the alternate key
-- 0.25
abbrev pub a_quarter : ℕ
a_quarter = 0x3e80_0000

-- the answer is this key number, with a coverage of this pattern
abbrev pub answers : ℕ → ℕ → Option Alternate → Bool
answers number coverage a = eqb (alternate_number a) number && eqb (to_bits binary32 (alternate_coverage a)) coverage

-- that is the answer where key 0 is reported and the threshold is 0.25
abbrev pub names : List Segment → ℕ → ℕ → Bool
names segments number coverage = answers number coverage (alternate_of 0 (of_bits binary32 a_quarter) segments)

-- a coverage at the threshold
unfoldable pub row_h : Row
row_h = record { letter = 104; holds = names (part 0 45 0 1 ∷ part 45 60 7 2 ∷ []) 7 a_quarter }

-- equal seconds: the key first met last
unfoldable pub row_i : Row
row_i = record { letter = 105; holds = names (part 0 30 0 1 ∷ part 30 45 7 2 ∷ part 45 60 9 4 ∷ []) 9 a_quarter }

-- a coverage below the threshold: none
unfoldable pub row_j : Row
row_j = record { letter = 106; holds = names (part 0 46 0 1 ∷ part 46 60 7 2 ∷ []) no_key 0 }

-- ---- k: windows cut into groups
-- a window: its centre in seconds, its key number, and the pattern of its confidence
abbrev pub window : ℕ → ℕ → ℕ → Estimate
window centre number confidence = record { centre = whole centre; key = key_at number; confidence = of_bits binary32 confidence; shapeless = false }

-- with a threshold of 0.35 and 30 s, the windows become these segments
abbrev pub groups : List Estimate → List Segment → Bool
groups windows segments = same_segments (groups_of (of_bits binary32 0x3eb3_3333) (whole 30) windows) segments

-- confidences 0.9, 0.9, 0.34, 0.9: the third lies below the threshold, and the fourth has the key of the window before it
unfoldable pub row_k : Row
row_k =
    record {
      letter = 107;
      holds = groups (window 6 0 0x3f66_6666 ∷ window 12 0 0x3f66_6666 ∷ window 18 7 0x3eae_147b ∷ window 24 7 0x3f66_6666 ∷ []) (part 0 30 7 4 ∷ []);
    }

-- ---- l: a chroma shifted by half a bin
-- bin 11 is 1, the others 0
abbrev pub only_b : List Float
only_b = replicate 11 plus_zero ++ (one ∷ [])

-- bins 0 and 11 are 0.5, whose pattern is 0x3f00_0000, and the others 0
abbrev pub halves : List ℕ
halves = 0x3f00_0000 ∷ replicate 10 0 ++ (0x3f00_0000 ∷ [])

-- bin 11 alone, offset 0.5: bins 0 and 11 are 0.5
unfoldable pub row_l : Row
row_l = record { letter = 108; holds = every (λ (k : ℕ). eqb (to_bits binary32 (get_or (shifted_of only_b a_half) k nan)) (get_or halves k 1)) 12 }

-- ---- m and n: what a chroma of twelve equal values tells
-- there are 24 scores, each of them and the confidence pass a test, the key is number 0, and the chroma has no shape (02 §4)
abbrev pub tells : (Float → Bool) → Classified → Bool
tells test c =
    eqb (length c.scores) 24 && every (λ (k : ℕ). test (get_or c.scores k nan)) 24
    && eqb (key_number c.key) 0
    && test (confidence_of c.best c.second)
    && c.shapeless

-- +0, told from -0 by its pattern
abbrev pub is_plus_zero : Float → Bool
is_plus_zero x = eqb (to_bits binary32 x) 0

-- chroma all NaN: scores NaN, key 0, confidence NaN
unfoldable pub row_m : Row
row_m = record { letter = 109; holds = tells is_nan (classified_of (replicate 12 nan)) }

-- chroma all zero: scores 0, key 0, confidence 0
unfoldable pub row_n : Row
row_n = record { letter = 110; holds = tells is_plus_zero (classified_of (replicate 12 plus_zero)) }

-- ---- o and p: the card of an analysis
-- two lists of numbers are equal
abbrev pub same_numbers : List ℕ → List ℕ → Bool
same_numbers = pairwise eqb 0

-- a card holds the analysis, and has these bytes
abbrev pub writes : Analysis → List ℕ → Bool
writes a bytes = not (unwritable a) && same_numbers (card_of a) bytes

-- key 21, DSP key 21, no alternate, confidence 0.5; one segment from 0 to 180 s, key 21, confidence 0.5
abbrev pub a_minor : Analysis
a_minor =
    analysis (record { key = 21; dsp = 21; alternate = no_key; coverage = plus_zero; confidence = a_half })
    (plus_zero ∷ []) (of_bits binary64 0x4066_8000_0000_0000 ∷ []) (21 ∷ []) (a_half ∷ [])

-- its card
unfoldable pub row_o : Row
row_o = record { letter = 111; holds = writes a_minor (0x1a ∷ 0xd7 ∷ 0x00 ∷ 0x03 ∷ 0xe8 ∷ 0x00 ∷ 0x81 ∷ 0x5f ∷ 0x90 ∷ 0x55 ∷ 0xf4 ∷ []) }

-- the empty analysis: the answer without a refusal, a key or a row
abbrev pub empty_analysis : Analysis
empty_analysis = card_of_answer (keyless 0 0 0) (segment_rows [] [] [] [] [])

-- its card
unfoldable pub row_p : Row
row_p = record { letter = 112; holds = writes empty_analysis (0x1c ∷ 0x63 ∷ 0x00 ∷ 0x00 ∷ 0x00 ∷ 0x00 ∷ 0x00 ∷ []) }

-- ---- the table
unfoldable pub rows : List Row
rows = row_a ∷ row_b ∷ row_c ∷ row_d ∷ row_e ∷ row_f ∷ row_g ∷ row_h ∷ row_i ∷ row_j ∷ row_k ∷ row_l ∷ row_m ∷ row_n ∷ row_o ∷ row_p ∷ []

-- whether every row of a table holds
abbrev pub all_hold : List Row → Bool
all_hold [] = true
all_hold (r ∷ rs) = r.holds && all_hold rs

-- the theorem that proofs/Hold.antt proves
abbrev pub RowsHold : Type 0
RowsHold = T (all_hold rows)
