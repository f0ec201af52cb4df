-- The symbols that are left may be put in place, since the first is among them and no relocation names one that went.
use Rattle.std.proofs.Common.{◌≡◌, ◌∙◌, ap, not, sym, true, false}
use Rattle.std.proofs.lemmas.Bool.{cond-true, cond-false}
use Rattle.elf_edits.specs.Texts.{has_some}
use Rattle.elf_symbol_edits.proofs.DeletionSteps.{some_if_not_empty}
use Rattle.elf_symbol_edits.proofs.PutSteps.{static_left, static_put_without}
use Rattle.elf_symbol_edits.specs.SymbolEdit.{without_symbols}
use Rattle.elf_symbol_edits.proofs.symbols.delete_symbols.Goals as goal

pub put_symbols-requires : goal.put_symbols-requires
put_symbols-requires c =
    static_put_without c.args.image.now c.args.gone.now c.edited_symbols.result.now c.in_ok-left.left c.source-source.ensures.edited c.requires.first c.in_ok-left.ensures
    c.edited_symbols.ensures.read c.edited_symbols.ensures.numbers c.edited_symbols.ensures.symbols c.requires.unnamed

pub returns-then-is_empty : goal.returns-then-is_empty
returns-then-is_empty c =
    let none : has_some c.args.gone.now ≡ false = sym (some_if_not_empty c.args.gone.now) ∙ ap not (sym c.is_empty.ensures ∙ c.if-is_empty.true) in
    record { told = sym none; made = sym (cond-false (has_some c.args.gone.now) (without_symbols c.args.gone.now c.args.image.now) c.args.image.now none) }

pub returns : goal.returns
returns c =
    let some : has_some c.args.gone.now ≡ true = sym (some_if_not_empty c.args.gone.now) ∙ ap not (sym c.is_empty.ensures ∙ c.if-is_empty.false) in
    record {
      told = sym some;
      made =
          c.put_symbols.ensures
          ∙ static_left c.args.image.now c.args.gone.now c.edited_symbols.result.now c.in_ok-left.left c.source-source.ensures.edited c.requires.first c.in_ok-left.ensures
          c.edited_symbols.ensures.read c.edited_symbols.ensures.numbers c.edited_symbols.ensures.symbols c.requires.unnamed
          ∙ sym (cond-true (has_some c.args.gone.now) (without_symbols c.args.gone.now c.args.image.now) c.args.image.now some);
    }
