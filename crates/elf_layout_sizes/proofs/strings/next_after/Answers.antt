-- The text is the next one, another one, or none is left.
use Rattle.std.proofs.Common.{◌≡◌, ◌<◌, ◌∙◌, [], ℕ, List, get_or, true, false, arith, length, subst, sym}
use Rattle.std.specs.Str.{bytes_eq}
use Rattle.elf_layout_sizes.proofs.TextSteps.{next_found, next_passed, next_past}
use Rattle.elf_layout_sizes.proofs.strings.next_after.Goals as goal

pub returns-then-next-len-clause-same : goal.returns-then-next-len-clause-same
returns-then-next-len-clause-same c = next_past c.args.some.now c.args.next c.args.text.now (c.if-next-len.true ∙ c.len.ensures)

pub returns-then-eq-clause-same : goal.returns-then-eq-clause-same
returns-then-eq-clause-same c =
    let within : c.args.next < length c.args.some.now = omega (arith, c.len.ensures) in
    let same : bytes_eq (get_or c.args.some.now c.args.next []) c.args.text.now ≡ true =
    subst (λ (t : List ℕ). bytes_eq t c.args.text.now ≡ true) c.text.ensures (sym c.eq.ensures ∙ c.if-eq.true) in
    next_found c.args.some.now c.args.next c.args.text.now within same

pub returns-else-eq-clause-same : goal.returns-else-eq-clause-same
returns-else-eq-clause-same c =
    let within : c.args.next < length c.args.some.now = omega (arith, c.len.ensures) in
    let other : bytes_eq (get_or c.args.some.now c.args.next []) c.args.text.now ≡ false =
    subst (λ (t : List ℕ). bytes_eq t c.args.text.now ≡ false) c.text.ensures (sym c.eq.ensures ∙ c.if-eq.false) in
    next_passed c.args.some.now c.args.next c.args.text.now within other
