-- Of what is heard only the first frames are read, so two that agree in those gather the same.
use mathlib.Core.Path.{◌≡◌, sym, ap, ◌∙◌}
use mathlib.Core.List.{[]}
use Prim.Native.Nat.{ℕ, ◌+◌, ◌<◌}
use native.Mathlib.Omega.{arith}
use lib.ListN.{get_or}
use lib.Ieee.{Float, nan}
use Rattle.laws.specs.Turns.{turns}
use Rattle.laws.proofs.Turns.{turns-start, turns-part}
use Rattle.gathering.specs.Gather.{Heard, gather_turn, none_gathered, gathered_after, gathered_of}
use Rattle.gathering.specs.declared.gather.Gathered.{Gathered}

-- as many frames, and each with the same centre and chroma
pub record Alike (h k : Heard) : Type 0 where
  pub frames : h.frames ≡ k.frames
  pub centres : (i : ℕ) → i < h.frames → get_or h.centres i nan ≡ get_or k.centres i nan
  pub values : (i : ℕ) → i < h.frames → get_or h.values i [] ≡ get_or k.values i []

module _ {h k : Heard} (alike : Alike h k) (start end : Float) where
  same_turn : (i : ℕ) (g : Gathered) → i < 0 + h.frames → gather_turn h start end i g ≡ gather_turn k start end i g
  unfolding gather_turn
  same_turn i g inside = rw (alike.centres i (omega arith), alike.values i (omega arith))

  pub gathered-alike : gathered_of h start end ≡ gathered_of k start end
  unfolding gathered_after
  gathered-alike =
      turns-start (gather_turn h start end) h.frames none_gathered
      ∙ turns-part (λ (g : Gathered). g) (gather_turn h start end) (gather_turn k start end) h.frames 0 same_turn none_gathered
      ∙ ap (λ (n : ℕ). turns (gather_turn k start end) n 0 none_gathered) alike.frames
      ∙ sym (turns-start (gather_turn k start end) k.frames none_gathered)
