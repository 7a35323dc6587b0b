-- The times, and then the two counts behind them.
use mathlib.Core.Path.{◌≡◌, sym, ap, ap₂, subst, ◌∙◌}
use mathlib.Core.List.{List}
use Prim.Native.Nat.{ℕ, ◌+◌, ◌*◌, ◌^◌, ◌<◌, ◌≤◌}
use native.Mathlib.Omega.{arith}
use lib.Dec.{eqb}
use lib.ListN.{length, get_or}
use Rattle.laws.proofs.Cases.{by-test}
use Rattle.bits.specs.Bits.{bits_of_bytes}
use Rattle.card.specs.Layout.{most_segments, LayoutFits}
use Rattle.card.specs.Rules.{no_key}
use Rattle.card.specs.declared.layout.Header.{Header}
use Rattle.card_form.specs.Form.{header_width, meaning_on}
use Rattle.card_reader.proofs.Ready.{Ready, ready}
use Rattle.set_totals.specs.Summary.{key_time, keyless_of}
use Rattle.set_totals.specs.inside.Numbers.{card_number, raised, more}
use Rattle.set_totals.proofs.Numbers.{more-long}
use Rattle.set_totals.proofs.Adding.{first-long, first_small, second-small, all-added}
use Rattle.set_totals.proofs.one_card.add_numbers.Goals as goal

-- one or none
few : (h : Header) → keyless_of h ≤ 1
few h = by-test (λ (n : ℕ). n ≤ 1) (eqb h.key no_key) (λ _. omega arith) (λ _. omega arith)

pub count_on-count-requires : goal.count_on-count-requires
count_on-count-requires c =
    let ready-card : Ready c.args.card.now most_segments c.args.l = ready c.args.card.now most_segments c.args.l c.requires.0 in
    let header-there : LayoutFits c.args.l × (header_width c.args.l ≤ length c.args.card.now * 8) = let r = ready-card in (r.sound.fits, omega (arith, r.sound.fits.count, r.long)) in
    header-there

pub header_on-requires : goal.header_on-requires
header_on-requires c =
    let ready-card : Ready c.args.card.now most_segments c.args.l = ready c.args.card.now most_segments c.args.l c.requires.0 in
    let header-there : LayoutFits c.args.l × (header_width c.args.l ≤ length c.args.card.now * 8) = let r = ready-card in (r.sound.fits, omega (arith, r.sound.fits.count, r.long)) in
    header-there

pub add_times-requires : goal.add_times-requires
add_times-requires c = (c.requires.0, c.count_on-count.ensures.0, c.requires.1)

pub raise-requires : goal.raise-requires
raise-requires c =
    let ready-card : Ready c.args.card.now most_segments c.args.l = ready c.args.card.now most_segments c.args.l c.requires.0 in
    let timed = c.add_times.ensures in
    subst (λ (xs : List ℕ). (24 < length xs) × (get_or xs 24 0 + 1 < 2 ^ 64)) (sym timed) (omega (arith, more-long (key_time ((meaning_on c.args.l (bits_of_bytes c.args.card.now)))) c.args.numbers.now), first_small c.args.l ((meaning_on c.args.l (bits_of_bytes c.args.card.now))) ((ready-card).sound) ((ready-card).good) _ c.requires.1)

pub raise-requires-2 : goal.raise-requires-2
raise-requires-2 c =
    let ready-card : Ready c.args.card.now most_segments c.args.l = ready c.args.card.now most_segments c.args.l c.requires.0 in
    let first-is : c.raise.new.numbers ≡ raised 24 1 (more (key_time ((meaning_on c.args.l (bits_of_bytes c.args.card.now)))) (c.args.numbers.now)) = c.raise.ensures ∙ ap (raised 24 1) c.add_times.ensures in
    let keyless-is : c.keyless-without.result ≡ keyless_of ((meaning_on c.args.l (bits_of_bytes c.args.card.now))).header = c.keyless-without.ensures ∙ ap keyless_of c.header_on.ensures in
    let m = (meaning_on c.args.l (bits_of_bytes c.args.card.now)) in
    subst (λ (xs : List ℕ). (25 < length xs) × (get_or xs 25 0 + c.keyless-without.result < 2 ^ 64)) (sym (first-is))
    (omega (arith, first-long c.args.l m ((ready-card).sound) ((ready-card).good) (c.args.numbers.now) c.requires.1), second-small c.args.l m ((ready-card).sound) ((ready-card).good) (c.args.numbers.now) c.requires.1 _ (omega (arith, keyless-is, few m.header)))

pub shape_of-numbers : goal.shape_of-numbers
shape_of-numbers c =
    let ready-card : Ready c.args.card.now most_segments c.args.l = ready c.args.card.now most_segments c.args.l c.requires.0 in
    let first-is : c.raise.new.numbers ≡ raised 24 1 (more (key_time ((meaning_on c.args.l (bits_of_bytes c.args.card.now)))) (c.args.numbers.now)) = c.raise.ensures ∙ ap (raised 24 1) c.add_times.ensures in
    let keyless-is : c.keyless-without.result ≡ keyless_of ((meaning_on c.args.l (bits_of_bytes c.args.card.now))).header = c.keyless-without.ensures ∙ ap keyless_of c.header_on.ensures in
    let all-is : c.raise-2.new.numbers ≡ more (card_number ((meaning_on c.args.l (bits_of_bytes c.args.card.now)))) (c.args.numbers.now) = c.raise-2.ensures
    ∙ ap₂ (λ (n : ℕ) (xs : List ℕ). raised 25 n xs) (keyless-is) (first-is)
    ∙ all-added c.args.l ((meaning_on c.args.l (bits_of_bytes c.args.card.now))) ((ready-card).sound) ((ready-card).good) (c.args.numbers.now) c.requires.1 in
    ap length (all-is) ∙ more-long _ _ ∙ sym c.requires.1.size

pub returns : goal.returns
returns c =
    let ready-card : Ready c.args.card.now most_segments c.args.l = ready c.args.card.now most_segments c.args.l c.requires.0 in
    let first-is : c.raise.new.numbers ≡ raised 24 1 (more (key_time ((meaning_on c.args.l (bits_of_bytes c.args.card.now)))) (c.args.numbers.now)) = c.raise.ensures ∙ ap (raised 24 1) c.add_times.ensures in
    let keyless-is : c.keyless-without.result ≡ keyless_of ((meaning_on c.args.l (bits_of_bytes c.args.card.now))).header = c.keyless-without.ensures ∙ ap keyless_of c.header_on.ensures in
    let all-is : c.raise-2.new.numbers ≡ more (card_number ((meaning_on c.args.l (bits_of_bytes c.args.card.now)))) (c.args.numbers.now) = c.raise-2.ensures
    ∙ ap₂ (λ (n : ℕ) (xs : List ℕ). raised 25 n xs) (keyless-is) (first-is)
    ∙ all-added c.args.l ((meaning_on c.args.l (bits_of_bytes c.args.card.now))) ((ready-card).sound) ((ready-card).good) (c.args.numbers.now) c.requires.1 in
    all-is
