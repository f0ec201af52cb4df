-- One symbol after another. Those before the first of them and behind the last stay.
use Rattle.std.proofs.Common.{◌≡◌, ℕ, arith, List, subst}
use Rattle.elf_image.specs.Views.{NamedSymbol}
use Rattle.elf_edits.specs.SymbolChanges.{changed_symbol, changed_to}
use Rattle.elf_edits.specs.Symbols.{behind_first}
use Rattle.elf_edits.proofs.SymbolSteps.{all_changed, none_changed_yet, one_more_changed, still_long}
use Rattle.elf_edits.proofs.symbols.SymbolChange.apply_between.Goals as goal

pub loop-i-init : goal.loop-i-init
loop-i-init c =
    (omega arith, c.requires.rising, none_changed_yet (changed_symbol c.args.self.now) c.args.edited.now c.args.first c.requires.begins.before)

pub apply-requires-clause-there : goal.apply-requires-clause-there
apply-requires-clause-there c =
    omega (arith, c.loop-i-test.true, c.requires.ends.within, still_long (changed_symbol c.args.self.now) c.args.edited.now c.loop-i.i c.loop-i.edited c.loop-i.invariant.2)

pub loop-i-preserved : goal.loop-i-preserved
loop-i-preserved c =
    let (after, within, so_far) = c.loop-i.invariant in (
      omega (arith, after),
      omega (arith, c.loop-i-test.true),
      one_more_changed (changed_symbol c.args.self.now) c.args.edited.now c.loop-i.i c.loop-i.edited c.apply.new.edited (omega (arith, c.requires.begins.behind, after))
          (omega (arith, c.loop-i-test.true, c.requires.ends.within)) so_far c.in_ok-apply.ensures,
    )

pub returns : goal.returns
returns c =
    let (after, within, so_far) = c.loop-i.invariant in
    let ys : List NamedSymbol = c.args.edited.now.symbols in
    let last : c.args.end ≡ c.loop-i.i = omega (arith, within, c.loop-i-test.false) in
    all_changed (changed_symbol c.args.self.now) c.args.edited.now c.loop-i.i c.loop-i.edited
    (subst (λ (k : ℕ). changed_to c.args.self.now k ys ≡ behind_first (changed_symbol c.args.self.now) ys) last c.requires.ends.left) so_far
