-- Each field joined to those before it adds its bits to theirs.
use mathlib.Core.Path.{◌∙◌}
use mathlib.Core.List.{◌++◌, append_assoc, append-nil}
use native.Mathlib.Omega.{arith}
use Rattle.bits.specs.Bits.{bits_of, HasBits}
use Rattle.bits.proofs.Digits.{bits-joined, bits-own, shift_fits}
use Rattle.card_pen.proofs.fields.header_number.Goals as goal

pub joined-requires : goal.joined-requires
joined-requires c =
    let front : HasBits 39 c.joined-confidence.result
    (bits_of 4 (c.args.l).number ++ bits_of 5 (c.args.h).key ++ bits_of 5 (c.args.h).dsp ++ bits_of 5 (c.args.h).alternate ++ bits_of 10 (c.args.h).coverage ++ bits_of 10 (c.args.h).confidence) = let fits = c.requires.1 in
    let key = bits-joined 5 (bits-own 4 c.requires.0.number) fits.key c.joined-key.ensures in
    let dsp = bits-joined 5 key fits.dsp c.joined-dsp.ensures in
    let alternate = bits-joined 5 dsp fits.alternate c.joined-alternate.ensures in
    let coverage = bits-joined 10 alternate fits.coverage c.joined-coverage.ensures in
    bits-joined 10 coverage fits.confidence c.joined-confidence.ensures in (
      omega (arith, c.requires.0.count),
      shift_fits 39 (c.args.l).count (front).fits (omega (arith, c.requires.0.count)),
      c.requires.1.count,
    )

pub returns : goal.returns
returns c =
    let front : HasBits 39 c.joined-confidence.result
    (bits_of 4 (c.args.l).number ++ bits_of 5 (c.args.h).key ++ bits_of 5 (c.args.h).dsp ++ bits_of 5 (c.args.h).alternate ++ bits_of 10 (c.args.h).coverage ++ bits_of 10 (c.args.h).confidence) = let fits = c.requires.1 in
    let key = bits-joined 5 (bits-own 4 c.requires.0.number) fits.key c.joined-key.ensures in
    let dsp = bits-joined 5 key fits.dsp c.joined-dsp.ensures in
    let alternate = bits-joined 5 dsp fits.alternate c.joined-alternate.ensures in
    let coverage = bits-joined 10 alternate fits.coverage c.joined-coverage.ensures in
    bits-joined 10 coverage fits.confidence c.joined-confidence.ensures in
    let all = bits-joined (c.args.l).count (front) c.requires.1.count c.joined.ensures in
    record { fits = all.fits; same = all.same ∙ simp (append_assoc, append-nil) }
