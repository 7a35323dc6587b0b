-- What is put behind a front makes it a longer front: a byte, or what was written to the rest of the slice.
use mathlib.Core.Path.{◌≡◌, refl, sym, ap, ap₂, ◌∙◌}
use mathlib.Core.List.{List, [], ◌∷◌, ◌++◌, append_assoc, append-nil}
use Prim.Native.Nat.{ℕ, ◌+◌, ◌-◌, ◌<◌, ◌≤◌}
use native.Mathlib.Omega.{arith}
use lib.ListN.{length, take, drop, set, length-append, length-take, length-drop, drop_of_length-le}
use lib.Seq.{take_all, take-append_seam, drop-append_seam, drop-drop}
use Rattle.laws.specs.Front.{front}
use Rattle.laws.proofs.Front.{front-more, length_front}
use Rattle.listing.specs.Lines.{AtFront}

-- nothing is written yet
pub at-start : (m : List ℕ) → AtFront [] m m 0
at-start m = record { size = refl; here = refl }

-- the rest of a slice, as a call has it that is lent it
abbrev pub rest : List ℕ → ℕ → List ℕ
rest now at = take (length now - at) (drop at now)

pub rest-long : (now : List ℕ) (at : ℕ) → length (rest now at) ≡ length now - at
rest-long now at = simp (length-take, length-drop) (omega arith)

-- the slice once the rest is back
abbrev pub back : List ℕ → ℕ → List ℕ → List ℕ
back now at part = take at now ++ (part ++ drop (length now - at) (drop at now))

-- the same list, written otherwise
pub as-list : {xs ys m now : List ℕ} {count : ℕ} → xs ≡ ys → AtFront xs m now count → AtFront ys m now count
as-list e p = rw e at p

module _ {xs m now : List ℕ} {at : ℕ} (p : AtFront xs m now at) where
  pub within : at ≤ length now
  within = omega (arith, p.size, ap length p.here, length-append xs (drop (length xs) m))

  pub same_size : length xs ≤ length m → length now ≡ length m
  same_size room = ap length p.here ∙ length_front xs m room

  pub byte-behind : (b : ℕ) → length xs < length m → AtFront (xs ++ (b ∷ [])) m (set now at b) (at + 1)
  byte-behind b room = record { size = rw (length-append, p.size); here = rw (p.here, p.size) (front-more xs m b room) }

  -- there is room for what is left to write
  pub room-behind : (ys : List ℕ) → length (xs ++ ys) ≤ length m → length ys ≤ length (rest now at)
  room-behind ys room =
      let both = length-append xs ys in
      let same = same_size (omega arith) in
      let place = p.size in
      simp (length-take, length-drop) (omega arith)

  pub part-behind : {ys part : List ℕ} {count : ℕ} → AtFront ys (rest now at) part count → AtFront (xs ++ ys) m (back now at part) (at + count)
  part-behind {ys} {part} {count} q =
      let behind : drop at now ≡ drop (length xs) m = ap₂ (λ (n : ℕ) (l : List ℕ). drop n l) p.size p.here ∙ drop-append_seam xs (drop (length xs) m) in
      let front-is : take at now ≡ xs = ap₂ (λ (n : ℕ) (l : List ℕ). take n l) p.size p.here ∙ take-append_seam xs (drop (length xs) m) in
      let size : length (drop at now) ≤ length now - at = rw length-drop (omega arith) in
      let none : drop (length now - at) (drop at now) ≡ [] = drop_of_length-le (drop at now) size in
      let all : rest now at ≡ drop at now = take_all (length now - at) (drop at now) size in
      record {
        size = ap₂ (λ (a b : ℕ). a + b) p.size q.size ∙ sym (length-append xs ys);
        here =
            ap₂ (λ (a b : List ℕ). a ++ b) front-is
            (ap₂ (λ (a b : List ℕ). a ++ b) (q.here ∙ ap (front ys) (all ∙ behind)) none ∙ append-nil (front ys (drop (length xs) m)))
            ∙ rw (drop-drop, append_assoc, length-append);
      }
