-- What a block holds after it was filled, with one chroma or with eight, and what is handed out of it.
use mathlib.Core.Path.{◌≡◌, refl, ap, ◌∙◌}
use mathlib.Core.Bool.{true}
use mathlib.Core.List.{List, []}
use Prim.Native.Nat.{ℕ, ◌+◌, ◌-◌, ◌*◌, ◌<◌, ◌≤◌}
use native.Mathlib.Nat.{add-mul}
use native.Mathlib.Omega.{arith}
use lib.Ieee.{Float}
use lib.ListN.{length, get_or, set}
use Rattle.laws.specs.Front.{list}
use Rattle.laws.proofs.Front.{length-list, get_or-list, get_d_front, filled-start, filled_more}
use Rattle.calls.specs.Call.{Sheet}
use Rattle.constant_q.specs.ConstantQ.{constant_q_of}
use Rattle.blocks.specs.inside.Block.{later_centre, all_whole, Inside, chromas_of}
use Rattle.blocks.specs.inside.Stock.{middle_at, constant_at, Centred, Tuned, Stock, FilledFrom, HandedOut}
use Rattle.blocks.specs.declared.stock.Held.{Held}

module _ (chroma : ℕ → List Float) (k : ℕ) where
  -- the chroma of the position j places behind k
  abbrev behind : ℕ → List Float
  behind j = chroma (k + j)

  pub one-held : (block : List (List Float)) {x : List Float} → length block ≡ 8 → x ≡ chroma k → FilledFrom chroma k (record { first = k; count = 1 }) (set block 0 x)
  one-held block {x} long e =
      let put = filled_more behind block block 0 (filled-start behind block) (omega arith) in
      let here : k ≡ k + 0 = omega arith in
      let same : set block 0 x ≡ set block 0 (behind 0) = ap (set block 0) (e ∙ ap chroma here) in
      record {
        stock = record {
          long = ap length same ∙ put.long ∙ long;
          few = omega arith;
          entries = λ (j : ℕ) (l : j < 1). ap (λ (b : List (List Float)). get_or b j []) (same ∙ put.here) ∙ get_d_front behind 1 block j [] l;
        };
        first = refl;
        some = omega arith;
      }

  pub eight-held : {block : List (List Float)} (at : ℕ → List Float) → block ≡ list at 8 → ((j : ℕ) → at j ≡ behind j) → FilledFrom chroma k (record { first = k; count = 8 }) block
  eight-held at e same =
      record {
        stock = record {
          long = ap length e ∙ length-list at 8;
          few = omega arith;
          entries = λ (j : ℕ) (l : j < 8). ap (λ (b : List (List Float)). get_or b j []) e ∙ get_or-list at 8 j [] l ∙ same j;
        };
        first = refl;
        some = omega arith;
      }

  pub from-held : {held : Held} {block : List (List Float)} → Stock chroma held block → held.first ≤ k → k - held.first < held.count → HandedOut chroma k (record { held = held; chroma = get_or block (k - held.first) [] }) block
  from-held {held} a begun within =
      let back : held.first + (k - held.first) ≡ k = omega arith in
      record { told = a.entries (k - held.first) within ∙ ap chroma back; stock = a; begun = begun }

  pub from-filled : {held : Held} {block : List (List Float)} → FilledFrom chroma k held block → HandedOut chroma k (record { held = held; chroma = get_or block 0 [] }) block
  from-filled {held} f = let e : held.first + 0 ≡ k = omega (arith, f.first) in record { told = f.stock.entries 0 f.some ∙ ap chroma e; stock = f.stock; begun = omega (arith, f.first) }

module _ (samples : List Float) (half hop k : ℕ) where
  same-centre : (j : ℕ) → later_centre (middle_at half hop k) hop j ≡ middle_at half hop (k + j)
  same-centre j = let spread = add-mul k j hop in omega arith

  pub block_held : (s : Sheet) {block : List (List Float)} → block ≡ chromas_of s samples (middle_at half hop k) hop → FilledFrom (constant_at s samples half hop) k (record { first = k; count = 8 }) block
  unfolding chromas_of
  block_held s e =
      eight-held (constant_at s samples half hop) k _ e
      (λ (j : ℕ). ap (constant_q_of s samples) (same-centre j))

  -- the last of eight positions too has its centre on the track
  pub last-near : {positions : ℕ} → Centred (length samples) half hop positions → k + 7 < positions → middle_at half hop k + 7 * hop ≤ length samples
  last-near centred l = let at = centred.on (k + 7) l in let spread = add-mul k 7 hop in omega arith

  pub inside : {positions end : ℕ} {lengths : List ℕ} {coefficients : List Float} → Centred (length samples) half hop positions → k + 7 < positions → Tuned lengths coefficients end → all_whole (length samples) (middle_at half hop k) hop lengths ≡ true
      → Inside (length samples) (middle_at half hop k) hop lengths coefficients end
  inside centred l tuned whole = let alike = tuned.alike in record { near = last-near centred l; tuned = omega arith; few = tuned.few; joined = tuned.joined; whole = whole }
