-- Key and count are judged as they stand on the card.
use mathlib.Core.Path.{◌≡◌, sym, ap, ap₂, ◌∙◌}
use mathlib.Core.Bool.{Bool, not, ◌&&◌}
use Prim.Native.Nat.{ℕ}
use lib.Dec.{eqb}
use Rattle.laws.proofs.Table.{told}
use Rattle.bits.specs.Bits.{bits_of_bytes}
use Rattle.card.specs.declared.layout.Header.{Header}
use Rattle.card_form.specs.Form.{header_on}
use Rattle.card_mender.specs.Mending.{has_no_key, key_broken, kept_on}
use Rattle.mend_call.proofs.Ways.{key-refused, none_kept, sound, header-there}
use Rattle.mend_call.proofs.mend_headed.Goals as goal

pub header_on-h-requires : goal.header_on-h-requires
header_on-h-requires c = ((sound c.args.bytes.now c.args.room.now c.args.l c.requires).fits, header-there c.args.bytes.now c.args.room.now c.args.l c.requires)

pub returns-then-key_broken : goal.returns-then-key_broken
returns-then-key_broken c =
    let of-key : (b : Bool) → c.key_broken.result ≡ b → key_broken c.args.l (header_on c.args.l (bits_of_bytes c.args.bytes.now)) ≡ b = λ w0 t. told (c.key_broken.ensures ∙ ap (key_broken c.args.l) c.header_on-h.ensures) t in
    key-refused c.args.bytes.now c.args.room.now c.args.l c.requires (of-key _ c.if-key_broken.true) c.unmended.ensures

pub count_on-claimed-requires : goal.count_on-claimed-requires
count_on-claimed-requires c = ((sound c.args.bytes.now c.args.room.now c.args.l c.requires).fits, header-there c.args.bytes.now c.args.room.now c.args.l c.requires)

pub kept_count-kept-requires : goal.kept_count-kept-requires
kept_count-kept-requires c = (
  (sound c.args.bytes.now c.args.room.now c.args.l c.requires).fits,
  header-there c.args.bytes.now c.args.room.now c.args.l c.requires,
  c.header_on-h.ensures,
  c.count_on-claimed.ensures.0,
  c.count_on-claimed.ensures.1,
)

pub returns-then-h-kept : goal.returns-then-h-kept
returns-then-h-kept c =
    let of-key : (b : Bool) → c.key_broken.result ≡ b → key_broken c.args.l (header_on c.args.l (bits_of_bytes c.args.bytes.now)) ≡ b = λ w0 t. told (c.key_broken.ensures ∙ ap (key_broken c.args.l) c.header_on-h.ensures) t in
    let of-kept : (b : Bool) → not (has_no_key c.header_on-h.result) && eqb c.kept_count-kept.result 0 ≡ b → not (has_no_key (header_on c.args.l (bits_of_bytes c.args.bytes.now))) && eqb (kept_on c.args.l c.args.bytes.now) 0 ≡ b = λ w0 t. sym (ap₂ (λ (h : Header) (n : ℕ). not (has_no_key h) && eqb n 0) c.header_on-h.ensures c.kept_count-kept.ensures) ∙ t in
    none_kept c.args.bytes.now c.args.room.now c.args.l c.requires (of-key _ c.if-key_broken.false) (of-kept _ c.if-h-kept.true) c.unmended-then-h-kept.ensures

pub write_kept-requires : goal.write_kept-requires
write_kept-requires c =
    let of-key : (b : Bool) → c.key_broken.result ≡ b → key_broken c.args.l (header_on c.args.l (bits_of_bytes c.args.bytes.now)) ≡ b = λ w0 t. told (c.key_broken.ensures ∙ ap (key_broken c.args.l) c.header_on-h.ensures) t in
    let of-kept : (b : Bool) → not (has_no_key c.header_on-h.result) && eqb c.kept_count-kept.result 0 ≡ b → not (has_no_key (header_on c.args.l (bits_of_bytes c.args.bytes.now))) && eqb (kept_on c.args.l c.args.bytes.now) 0 ≡ b = λ w0 t. sym (ap₂ (λ (h : Header) (n : ℕ). not (has_no_key h) && eqb n 0) c.header_on-h.ensures c.kept_count-kept.ensures) ∙ t in
    record {
      headed = c.requires;
      header = c.header_on-h.ensures;
      counted = c.count_on-claimed.ensures.0;
      left = c.kept_count-kept.ensures;
      keyed = of-key _ c.if-key_broken.false;
      some = of-kept _ c.if-h-kept.false;
    }

pub returns : goal.returns
returns c = c.write_kept.ensures
