-- The header is judged first, then the segments one after the other, as the card's meaning has them.
use mathlib.Core.Path.{◌≡◌, ap, ◌∙◌}
use mathlib.Core.Bool.{Bool}
use Prim.Native.Nat.{ℕ}
use Rattle.laws.specs.Front.{list}
use Rattle.laws.proofs.Table.{told}
use Rattle.bits.specs.Bits.{bits_of_bytes}
use Rattle.card.specs.Rules.{header_broken, card_broken}
use Rattle.card.specs.declared.layout.Header.{Header}
use Rattle.card_form.specs.Form.{header_on, segment_on, meaning_on}
use Rattle.card_form.proofs.Broken.{by-header, by-segments}
use Rattle.card_reader.proofs.judge.is_broken.Goals as goal

pub returns-then-header_broken : goal.returns-then-header_broken
returns-then-header_broken c =
    let in-header : (b : Bool) → c.header_broken.result ≡ b → header_broken c.args.rules (header_on (c.args.l) ((bits_of_bytes c.args.bytes.now))) (c.args.count) ≡ b = λ w0 t. told (c.header_broken.ensures ∙ ap (λ (h : Header). header_broken c.args.rules h (c.args.count)) c.header_on.ensures) t in
    let own-count : card_broken c.args.rules (record { header = header_on (c.args.l) ((bits_of_bytes c.args.bytes.now)); segments = list ((segment_on (c.args.l) ((bits_of_bytes c.args.bytes.now)))) (c.args.count) }) ≡ card_broken c.args.rules (meaning_on (c.args.l) ((bits_of_bytes c.args.bytes.now))) = ap (λ (n : ℕ). card_broken c.args.rules (record { header = header_on (c.args.l) ((bits_of_bytes c.args.bytes.now)); segments = list ((segment_on (c.args.l) ((bits_of_bytes c.args.bytes.now)))) n })) c.requires.2 in
    by-header c.args.rules (header_on (c.args.l) ((bits_of_bytes c.args.bytes.now))) ((segment_on (c.args.l) ((bits_of_bytes c.args.bytes.now)))) (c.args.count) (in-header _ c.if-header_broken.true) ∙ own-count

pub returns : goal.returns
returns c =
    let in-header : (b : Bool) → c.header_broken.result ≡ b → header_broken c.args.rules (header_on (c.args.l) ((bits_of_bytes c.args.bytes.now))) (c.args.count) ≡ b = λ w0 t. told (c.header_broken.ensures ∙ ap (λ (h : Header). header_broken c.args.rules h (c.args.count)) c.header_on.ensures) t in
    let own-count : card_broken c.args.rules (record { header = header_on (c.args.l) ((bits_of_bytes c.args.bytes.now)); segments = list ((segment_on (c.args.l) ((bits_of_bytes c.args.bytes.now)))) (c.args.count) }) ≡ card_broken c.args.rules (meaning_on (c.args.l) ((bits_of_bytes c.args.bytes.now))) = ap (λ (n : ℕ). card_broken c.args.rules (record { header = header_on (c.args.l) ((bits_of_bytes c.args.bytes.now)); segments = list ((segment_on (c.args.l) ((bits_of_bytes c.args.bytes.now)))) n })) c.requires.2 in
    by-segments c.args.rules (header_on (c.args.l) ((bits_of_bytes c.args.bytes.now))) ((segment_on (c.args.l) ((bits_of_bytes c.args.bytes.now)))) (c.args.count) (in-header _ c.if-header_broken.false) c.first_broken.ensures ∙ own-count
