-- Laws of lent rows: slices that are written from the front, a column of a growing list of records.
use mathlib.Core.Path.{◌≡◌, refl, sym, ap, ◌∙◌}
use mathlib.Core.List.{List, [], ◌∷◌, ◌++◌, map, map-append}
use Prim.Native.Nat.{ℕ, ◌<◌, ◌≤◌}
use native.Mathlib.Omega.{arith}
use lib.ListN.{length, get_or, set, length-set, length-append, length-map, get_or-append, get_or-map}
use lib.Seq.{get_or-set_same, set-get_or}
use Rattle.laws.specs.Front.{front}
use Rattle.laws.proofs.Front.{front-more}

-- m is m₀ with the column f of the records in its first places
pub record Column {R A : Type 0} (f : R → A) (records : List R) (m₀ m : List A) : Type 0 where
  pub here : m ≡ front (map f records) m₀
  pub long : length m ≡ length m₀

pub column-start : {R A : Type 0} (f : R → A) (m : List A) → Column f [] m m
column-start f m = record { here = refl; long = refl }

-- one more record
pub column-more : {R A : Type 0} (f : R → A) (records : List R) (r : R) {m₀ m : List A} (n : ℕ) → n ≡ length records → n < length m₀ → Column f records m₀ m → Column f (records ++ (r ∷ [])) m₀ (set m n (f r))
column-more f records r {m₀} {m} n e h c =
    let k : n ≡ length (map f records) = e ∙ sym (length-map records f) in
    let j : length (map f records) < length m₀ = rw k at h in
    record {
      here = ap (λ (l : List _). set l n (f r)) c.here ∙ ap (λ (i : ℕ). set (front (map f records) m₀) i (f r)) k ∙ front-more (map f records) m₀ (f r) j ∙ ap (λ (l : List _). front l m₀) (sym (map-append f records (r ∷ [])));
      long = length-set m n (f r) ∙ c.long;
    }

-- as many places as the records take are there
pub column_fits : {R A : Type 0} (f : R → A) (records : List R) (m : List A) → length records ≤ length (front (map f records) m)
column_fits f records m = simp (length-append, length-map) (omega arith)

-- an entry that is there, whatever would stand for one that is not
pub entry-there : {A : Type 0} (xs : List A) (i : ℕ) (d e : A) → i < length xs → get_or xs i d ≡ get_or xs i e
entry-there xs i d e h = sym (get_or-set_same xs i (get_or xs i d) e h) ∙ ap (λ (l : List _). get_or l i e) (set-get_or xs i d)

-- a column's entry
pub column-at : {R A : Type 0} (f : R → A) (found : List R) (m : List A) (i : ℕ) (d : A) (r : R) → i < length found → get_or (front (map f found) m) i d ≡ f (get_or found i r)
column-at f found m i d r h =
    let there : i < length (map f found) = rw (length-map found f) h in
    get_or-append (map f found) _ d i there ∙ entry-there (map f found) i d (f r) there ∙ get_or-map f found i r
