-- A call that writes a card: what its writer needs where a layout holds what is asked, and what comes of each way out.
use Rattle.std.specs.Prelude.{Option, Some, None, is_some}
use mathlib.Core.Path.{◌≡◌, sym, ap, subst, ◌∙◌}
use mathlib.Core.Bool.{Bool, not}
use mathlib.Core.List.{List}
use Prim.Native.Nat.{ℕ, ◌^◌, ◌≤◌, ◌<◌}
use lib.ListN.{length}
use Rattle.laws.specs.Front.{front}
use Rattle.written.specs.Outcome.{answered, bytes_outcome, BytesOutcome, written_as}
use Rattle.written.specs.declared.Written.{Written}
use Rattle.written.proofs.Outcomes.{cannot-write, too_short, wrote}
use Rattle.card.specs.Layout.{LayoutFits}
use Rattle.card.specs.declared.layout.Layout.{Layout}
use Rattle.card.proofs.Known.{known-sound}
use Rattle.card.proofs.Chosen.{Needed, chosen-needed}
use Rattle.card_form.specs.Form.{card_bytes, card_for, card_size}
use Rattle.card_form.proofs.Broken.{Asked, Held, meant, layout_asked, held, card-in}
use Rattle.card_pen.specs.inside.Putting.{CanWrite}
use Rattle.card_pen.proofs.Puts.{card-length, few-written}

module _ (a : Asked) (lent : List ℕ) where
  -- no layout holds it
  abbrev refuses : Bool
  refuses = not (is_some (layout_asked a))

  -- what the call comes to
  abbrev left_by : BytesOutcome
  left_by = written_as refuses (card_for (meant a)) lent

  of-layout : {found other : Option Layout} → found ≡ layout_asked a → found ≡ other → refuses ≡ not (is_some other)
  of-layout e f = ap (λ (x : Option Layout). not (is_some x)) (sym e ∙ f)

  pub none-holds : {found : Option Layout} {r : Written} → found ≡ layout_asked a → found ≡ None → r ≡ answered 11 0 → bytes_outcome r lent ≡ left_by
  none-holds e f r = cannot-write refuses (card_for (meant a)) lent (of-layout e f) r

  module _ {found : Option Layout} {l : Layout} (e : found ≡ layout_asked a) (f : found ≡ Some l) where
    known : Held a l
    known = held a (sym e ∙ f)

    need : Needed l (meant a)
    need = chosen-needed (meant a) l known.kept

    fits : LayoutFits l
    fits = (known-sound l.number need.known).fits

    pub can-measure : LayoutFits l × (a.count < 2 ^ 32)
    can-measure = (fits, few-written l a.header a.at a.count fits need.good)

    measured : {size : ℕ} → size ≡ card_size l a.count → size ≡ length (card_for (meant a))
    measured s = s ∙ sym (card-length l a.header a.at a.count) ∙ ap length (card-in (meant a) known.kept)

    module _ {size : ℕ} (s : size ≡ card_size l a.count) where
      pub too_few : {r : Written} → length lent < size → r ≡ answered 12 0 → bytes_outcome r lent ≡ left_by
      too_few less r = too_short refuses (card_for (meant a)) lent (of-layout e f) (measured s) less r

      pub can_write : size ≤ length lent → CanWrite lent l a.header a.at a.count × (a.keys ≡ a.count) × (a.confidences ≡ a.count)
      can_write room = (record { layout = fits; good = need.good; room = subst (λ (n : ℕ). n ≤ length lent) s room }, known.keyed, known.trusted)

      pub card-written : {n : ℕ} {after : List ℕ} → size ≤ length lent → n ≡ card_size l a.count → after ≡ front (card_bytes l (meant a)) lent → bytes_outcome (answered 0 n) after ≡ left_by
      card-written room n put =
          wrote refuses (card_for (meant a)) lent (of-layout e f) (measured s) room (measured n) (put ∙ ap (λ (bytes : List ℕ). front bytes lent) (card-in (meant a) known.kept))
