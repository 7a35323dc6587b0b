-- Each field joined to those before it adds its bits to theirs.
use mathlib.Core.Path.{◌∙◌}
use mathlib.Core.List.{append_assoc, append-nil}
use Prim.Native.Nat.{◌+◌}
use native.Mathlib.Omega.{arith}
use Rattle.bits.proofs.Digits.{bits-joined, bits-own, shift_fits}
use Rattle.card_pen.proofs.fields.segment_number.Goals as goal

pub joined-keyed-requires : goal.joined-keyed-requires
joined-keyed-requires c =
    let fits = c.requires.1 in
    let narrow = c.requires.0.end in
    (omega arith, shift_fits c.args.l.end 5 fits.end (omega (arith, narrow)), fits.key)

pub joined-requires : goal.joined-requires
joined-requires c =
    let fits = c.requires.1 in
    let narrow = c.requires.0.end in
    let keyed = bits-joined 5 (bits-own c.args.l.end fits.end) fits.key c.joined-keyed.ensures in
    (omega arith, shift_fits (c.args.l.end + 5) 10 keyed.fits (omega (arith, narrow)), fits.confidence)

pub returns : goal.returns
returns c =
    let fits = c.requires.1 in
    let keyed = bits-joined 5 (bits-own c.args.l.end fits.end) fits.key c.joined-keyed.ensures in
    let all = bits-joined 10 keyed fits.confidence c.joined.ensures in
    record { fits = all.fits; same = all.same ∙ simp (append_assoc, append-nil) }
