-- Each return is a row of the table, those above it having failed; the table's rows are told once, of what the calls before them gave.
use mathlib.Core.Path.{◌≡◌, refl, sym, ap, ap₂, ◌∙◌, subst}
use mathlib.Core.Bool.{Bool, false, not, ◌&&◌, ◌||◌}
use mathlib.Core.List.{List}
use Prim.Native.Nat.{ℕ, ◌≤◌, ◌<◌}
use native.Mathlib.Omega.{arith}
use lib.Dec.{eqb}
use lib.ListN.{length, drop}
use borrow.Author.Tests.{lt-ltb, le-ltb, eq-eqb, ne_eqb}
use Rattle.std.specs.Prelude.{Option, Some, None, is_some, Result, Ok}
use Rattle.laws.specs.Table.{first_of}
use Rattle.laws.proofs.Table.{Reads, here, next, end, reads, told}
use Rattle.bits.specs.Bits.{bits_of_bytes}
use Rattle.card.specs.Layout.{layouts, numbered_in, layout_or1}
use Rattle.card.specs.Rules.{card_broken}
use Rattle.card.specs.declared.layout.Layout.{Layout}
use Rattle.card.proofs.Known.{Sound, known-sound}
use Rattle.card_form.specs.Form.{card_size, number_on, count_on, meaning_on, filler_set}
use Rattle.card_reader.specs.Reading.{layout_on, reading_table, judged_of}
use Rattle.card_reader.specs.declared.judge.CardError.{CardError}
use Rattle.card_reader.proofs.judge.judge_card.Goals as goal

-- what the calls give of a card, and the rows that they decide
module _ (bytes : List ℕ) where
  abbrev bits : List ℕ
  bits = bits_of_bytes bytes

  layout-is : {number : ℕ} {found asked : Option Layout} → number ≡ number_on bits → found ≡ numbered_in layouts number → found ≡ asked → layout_on bits ≡ asked
  layout-is n f is = sym (f ∙ ap (numbered_in layouts) n) ∙ is

  -- its header is there, and names the layout
  record Headed (l : Layout) : Type 0 where
    pub known : layout_on bits ≡ Some l
    pub sound : Sound l
    pub long : 7 ≤ length bytes

  headed : {number : ℕ} {found : Option Layout} {l : Layout} → number ≡ number_on bits → found ≡ numbered_in layouts number → found ≡ Some l → 7 ≤ length bytes → Headed l
  headed n f is long = let known = layout-is n f is in record { known = known; sound = known-sound (number_on bits) known; long = long }

  -- and all of so many segments are there
  record Whole (l : Layout) (count : ℕ) : Type 0 where
    pub headed : Headed l
    pub counted : count ≡ count_on l bits
    pub whole : length bytes ≡ card_size l count

  whole : {l : Layout} {count size : ℕ} → Headed l → count ≡ count_on l bits → size ≡ card_size l count → length bytes ≡ size → Whole l count
  whole h e s same = record { headed = h; counted = e; whole = same ∙ s }

  module _ (rows : ℕ) where
    -- a row that is reached decides
    judged : {asked : Option Layout} {answer : Result Layout CardError} → layout_on bits ≡ asked → Reads (Ok (layout_or1 asked)) (reading_table bytes bits (layout_or1 asked) rows) answer → answer ≡ judged_of bytes rows
    unfolding judged_of
    judged known r = reads r ∙ sym (ap (λ (f : Option Layout). first_of (reading_table bytes bits (layout_or1 f) rows) (Ok (layout_or1 f))) known)

    -- where the layout is not known, the length is not asked
    any-length : layout_on bits ≡ None → (same : Bool) → is_some (layout_on bits) && not same ≡ false
    any-length unknown same = ap (λ (f : Option Layout). is_some f && not same) unknown

    of_length : {l : Layout} {count size : ℕ} {b : Bool} → Headed l → count ≡ count_on l bits → size ≡ card_size l count → not (eqb (length bytes) size) ≡ b → is_some (layout_on bits) && not (eqb (length bytes) (card_size l (count_on l bits))) ≡ b
    of_length {l} h e s t =
        ap (λ (f : Option Layout). is_some f && not (eqb (length bytes) (card_size l (count_on l bits)))) h.known
        ∙ ap (λ (n : ℕ). not (eqb (length bytes) n)) (sym (s ∙ ap (card_size l) e)) ∙ t

    of-rules : (l : Layout) {broken filled b : Bool} → broken ≡ card_broken l (meaning_on l bits) → filled ≡ filler_set l bits → broken || filled ≡ b → card_broken l (meaning_on l bits) || filler_set l bits ≡ b
    of-rules l p q t = sym (ap₂ (λ (x y : Bool). x || y) p q) ∙ t

    -- the rows above the rules have failed
    past : {l : Layout} {count : ℕ} {answer : Result Layout CardError} → Whole l count → Reads (Ok l) (drop 3 (reading_table bytes bits l rows)) answer → answer ≡ judged_of bytes rows
    past w r =
        let h = w.headed in
        judged h.known (next (le-ltb _ _ h.long) (next (of_length h w.counted refl (ap not (eq-eqb _ _ w.whole))) (next (ap (λ (f : Option Layout). not (is_some f)) h.known) r)))

pub returns-then-bytes-lt7 : goal.returns-then-bytes-lt7
returns-then-bytes-lt7 c = judged c.args.bytes.now c.args.rows refl (here (lt-ltb _ _ c.if-bytes-lt7.true))

pub returns-in_default : goal.returns-in_default
returns-in_default c =
    let bytes = c.args.bytes.now in
    let unknown : layout_on (bits_of_bytes bytes) ≡ None = layout-is bytes c.number_on.ensures c.layout_numbered.ensures c.in_default.is in
    judged bytes c.args.rows unknown (next (le-ltb _ _ c.if-bytes-lt7.false) (next (any-length bytes c.args.rows unknown _) (here (ap (λ (f : Option Layout). not (is_some f)) unknown))))

pub count_on-count-requires : goal.count_on-count-requires
count_on-count-requires c =
    let h = headed c.args.bytes.now c.number_on.ensures c.layout_numbered.ensures c.in-Some.is c.if-bytes-lt7.false in
    let fits = h.sound.fits in
    (fits, omega (arith, fits.count, h.long))

pub card_size-requires : goal.card_size-requires
card_size-requires c =
    let h = headed c.args.bytes.now c.number_on.ensures c.layout_numbered.ensures c.in-Some.is c.if-bytes-lt7.false in
    (h.sound.fits, c.count_on-count.ensures.1)

pub returns-then-not-bytes-card_size : goal.returns-then-not-bytes-card_size
returns-then-not-bytes-card_size c =
    let bytes = c.args.bytes.now in
    let rows = c.args.rows in
    let h = headed bytes c.number_on.ensures c.layout_numbered.ensures c.in-Some.is c.if-bytes-lt7.false in
    judged bytes rows h.known (next (le-ltb _ _ h.long) (here (of_length bytes rows h c.count_on-count.ensures.0 c.card_size.ensures (ap not (ne_eqb _ _ c.if-not-bytes-card_size.true)))))

pub is_broken-requires : goal.is_broken-requires
is_broken-requires c =
    let w = whole c.args.bytes.now (headed c.args.bytes.now c.number_on.ensures c.layout_numbered.ensures c.in-Some.is c.if-bytes-lt7.false) c.count_on-count.ensures.0 c.card_size.ensures c.if-not-bytes-card_size.false in
    (w.headed.sound.fits, c.count_on-count.ensures.1, w.counted, omega (arith, w.whole))

pub filler_set-requires : goal.filler_set-requires
filler_set-requires c =
    let w = whole c.args.bytes.now (headed c.args.bytes.now c.number_on.ensures c.layout_numbered.ensures c.in-Some.is c.if-bytes-lt7.false) c.count_on-count.ensures.0 c.card_size.ensures c.if-not-bytes-card_size.false in
    (w.headed.sound.fits, c.count_on-count.ensures.1, w.counted, w.whole)

pub returns-then-is_broken-filler_set : goal.returns-then-is_broken-filler_set
returns-then-is_broken-filler_set c =
    let bytes = c.args.bytes.now in
    let rows = c.args.rows in
    let w = whole bytes (headed bytes c.number_on.ensures c.layout_numbered.ensures c.in-Some.is c.if-bytes-lt7.false) c.count_on-count.ensures.0 c.card_size.ensures c.if-not-bytes-card_size.false in
    past bytes rows w (here (of-rules bytes rows _ c.is_broken.ensures c.filler_set.ensures c.if-is_broken-filler_set.true))

pub is_needless-requires : goal.is_needless-requires
is_needless-requires c =
    let w = whole c.args.bytes.now (headed c.args.bytes.now c.number_on.ensures c.layout_numbered.ensures c.in-Some.is c.if-bytes-lt7.false) c.count_on-count.ensures.0 c.card_size.ensures c.if-not-bytes-card_size.false in
    (w.headed.sound.fits, c.count_on-count.ensures.1, w.counted, omega (arith, w.whole))

pub returns-then-is_needless : goal.returns-then-is_needless
returns-then-is_needless c =
    let bytes = c.args.bytes.now in
    let rows = c.args.rows in
    let w = whole bytes (headed bytes c.number_on.ensures c.layout_numbered.ensures c.in-Some.is c.if-bytes-lt7.false) c.count_on-count.ensures.0 c.card_size.ensures c.if-not-bytes-card_size.false in
    let kept = of-rules bytes rows _ c.is_broken.ensures c.filler_set.ensures c.if-is_broken-filler_set.false in
    past bytes rows w (next kept (here (told c.is_needless.ensures c.if-is_needless.true)))

pub returns-then-rows-count : goal.returns-then-rows-count
returns-then-rows-count c =
    let bytes = c.args.bytes.now in
    let rows = c.args.rows in
    let w = whole bytes (headed bytes c.number_on.ensures c.layout_numbered.ensures c.in-Some.is c.if-bytes-lt7.false) c.count_on-count.ensures.0 c.card_size.ensures c.if-not-bytes-card_size.false in
    let kept = of-rules bytes rows _ c.is_broken.ensures c.filler_set.ensures c.if-is_broken-filler_set.false in
    let few = subst (λ (n : ℕ). rows < n) w.counted c.if-rows-count.true in
    past bytes rows w (next kept (next (told c.is_needless.ensures c.if-is_needless.false) (here (lt-ltb _ _ few))))

pub returns : goal.returns
returns c =
    let bytes = c.args.bytes.now in
    let rows = c.args.rows in
    let w = whole bytes (headed bytes c.number_on.ensures c.layout_numbered.ensures c.in-Some.is c.if-bytes-lt7.false) c.count_on-count.ensures.0 c.card_size.ensures c.if-not-bytes-card_size.false in
    let kept = of-rules bytes rows _ c.is_broken.ensures c.filler_set.ensures c.if-is_broken-filler_set.false in
    let room = subst (λ (n : ℕ). n ≤ rows) w.counted c.if-rows-count.false in
    past bytes rows w (next kept (next (told c.is_needless.ensures c.if-is_needless.false) (next (le-ltb _ _ room) end)))
