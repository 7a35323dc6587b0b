-- A pen puts the header, the segments and the filler.
use mathlib.Core.Path.{◌≡◌, sym, ap₂, subst}
use mathlib.Core.List.{List}
use Prim.Native.Nat.{ℕ}
use Rattle.bits.specs.inside.Pens.{BitsPut, fresh_pen}
use Rattle.bits.specs.declared.pen.Pen.{Pen}
use Rattle.card.specs.declared.layout.Layout.{Layout}
use Rattle.card.specs.declared.layout.Header.{Header}
use Rattle.card_form.specs.Form.{header_bits}
use Rattle.card_pen.specs.inside.Putting.{CanStart}
use Rattle.card_pen.proofs.Puts.{can-start, can-put, can-end, size-put, card-put}
use Rattle.card_pen.proofs.whole.write_card.Goals as goal

-- header and count as they were asked for
module _ (bytes : List ℕ) (l : Layout) {h k : Header} {count n : ℕ} (header : h ≡ k) (counted : count ≡ n) where
  start : CanStart bytes l k n → CanStart bytes l h count
  start can = subst (λ (x : Header). CanStart bytes l x count) (sym header) (subst (CanStart bytes l k) (sym counted) can)

  put : {after : List ℕ} {pen : Pen} → BitsPut bytes after fresh_pen pen (header_bits l h count) → BitsPut bytes after fresh_pen pen (header_bits l k n)
  put {after} {pen} p = subst (BitsPut bytes after fresh_pen pen) (ap₂ (header_bits l) header counted) p

pub start_card-headed-requires : goal.start_card-headed-requires
start_card-headed-requires g c =
    let s = g.S.SaysCard in
    let said = c.args.said.now in
    start c.args.bytes.now c.args.l c.header-header.ensures c.count-count.ensures (can-start c.args.l (s.header_of said) (s.segment_of said) (s.count_of said) c.requires.0)

pub put_segments-last-requires : goal.put_segments-last-requires
put_segments-last-requires g c =
    let s = g.S.SaysCard in
    let said = c.args.said.now in
    let header = put c.args.bytes.now c.args.l c.header-header.ensures c.count-count.ensures c.start_card-headed.ensures in
    (can-put c.args.l (s.header_of said) (s.segment_of said) (s.count_of said) c.requires.0 header, c.requires.1)

pub end_card-filled-requires : goal.end_card-filled-requires
end_card-filled-requires g c =
    let s = g.S.SaysCard in
    let said = c.args.said.now in
    let header = put c.args.bytes.now c.args.l c.header-header.ensures c.count-count.ensures c.start_card-headed.ensures in
    can-end c.args.l (s.header_of said) (s.segment_of said) (s.count_of said) c.requires.0 header c.put_segments-last.ensures

pub returns : goal.returns
returns g c =
    let s = g.S.SaysCard in
    let said = c.args.said.now in
    let header = put c.args.bytes.now c.args.l c.header-header.ensures c.count-count.ensures c.start_card-headed.ensures in (
      size-put c.args.l (s.header_of said) (s.segment_of said) (s.count_of said) c.requires.0 header c.put_segments-last.ensures c.end_card-filled.ensures,
      card-put c.args.l (s.header_of said) (s.segment_of said) (s.count_of said) c.requires.0 header c.put_segments-last.ensures c.end_card-filled.ensures (λ i. (c.type_inv.bytes i).fits),
    )
