-- Lists entry by entry: those that pass a test, and a fold from the left. Definitions only.
use Rattle.std.specs.Prelude.{Bool, cond, List, [], ◌∷◌}

-- the entries that pass the test, in their order
unfoldable pub passing : {A : Type 0} → (A → Bool) → List A → List A
passing test [] = []
passing test (x ∷ xs) = cond (test x) (x ∷ passing test xs) (passing test xs)

-- from s, one entry after the other: Rust's `fold`
unfoldable pub fold : {S A : Type 0} → (S → A → S) → S → List A → S
fold step s [] = s
fold step s (x ∷ xs) = fold step (step s x) xs
