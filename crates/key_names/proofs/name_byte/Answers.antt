-- A byte lies in the tonic, at the blank, in the mode or behind it.
use mathlib.Core.Path.{◌≡◌, ap, ◌∙◌}
use mathlib.Core.List.{List}
use Prim.Native.Nat.{ℕ, ◌-◌, ◌<◌}
use native.Mathlib.Omega.{arith}
use lib.ListN.{length, get_or}
use Rattle.key_names.specs.Names.{tonic_name, mode_name, name_of}
use Rattle.key_names.proofs.Letters.{one-or-two, in-tonic, at-blank, in-mode, past-mode}
use Rattle.key_names.proofs.name_byte.Goals as goal

pub bounds-letters-i : goal.bounds-letters-i
bounds-letters-i c = omega (arith, c.tonic_length-blank.ensures, one-or-two c.args.key.tonic)

pub returns-then-i-blank : goal.returns-then-i-blank
returns-then-i-blank c =
    let i = c.args.i in
    let before : i < length (tonic_name c.args.key.tonic) = omega (arith, c.tonic_length-blank.ensures) in
    ap (λ (l : List ℕ). get_or l i 0) c.tonic_letters-letters.ensures ∙ in-tonic c.args.key i before

pub returns-then-i-blank-2 : goal.returns-then-i-blank-2
returns-then-i-blank-2 c = at-blank c.args.key c.args.i (c.if-i-blank-2.true ∙ c.tonic_length-blank.ensures)

pub returns-then-j-lt5 : goal.returns-then-j-lt5
returns-then-j-lt5 c =
    let behind : get_or (mode_name c.args.key.mode) (c.args.i - c.tonic_length-blank.result - 1) 0
    ≡ get_or (name_of c.args.key) c.args.i 0 = let i = c.args.i in
    let count = c.tonic_length-blank.ensures in
    ap (λ (n : ℕ). get_or (mode_name c.args.key.mode) (i - n - 1) 0) count ∙ in-mode c.args.key i (omega (arith, count)) in
    ap (λ (l : List ℕ). get_or l (c.args.i - c.tonic_length-blank.result - 1) 0) c.mode_letters-word.ensures ∙ behind

pub returns-else-j-lt5 : goal.returns-else-j-lt5
returns-else-j-lt5 c =
    let behind : get_or (mode_name c.args.key.mode) (c.args.i - c.tonic_length-blank.result - 1) 0
    ≡ get_or (name_of c.args.key) c.args.i 0 = let i = c.args.i in
    let count = c.tonic_length-blank.ensures in
    ap (λ (n : ℕ). get_or (mode_name c.args.key.mode) (i - n - 1) 0) count ∙ in-mode c.args.key i (omega (arith, count)) in
    past-mode c.args.key _ c.if-j-lt5.false ∙ behind
