-- The symbols that are left may be put in place, since the first is among them and no relocation names one that went.
use Rattle.std.proofs.Common.{◌≡◌, ◌∙◌, ap, not, sym, true, false}
use Rattle.std.proofs.lemmas.Bool.{cond-true, cond-false}
use Rattle.elf_edits.specs.Texts.{has_some}
use Rattle.elf_symbol_edits.proofs.DeletionSteps.{renumbers_then, some_if_not_empty}
use Rattle.elf_image.specs.Renumbering.{can_renumber}
use Rattle.elf_symbol_edits.proofs.PutSteps.{dynamic_left, dynamic_put_without}
use Rattle.elf_symbol_edits.specs.SymbolEdit.{without_dynamic_symbols}
use Rattle.elf_symbol_edits.proofs.symbols.delete_dynamic_symbols.Goals as goal

pub put_dynamic_symbols-requires : goal.put_dynamic_symbols-requires
put_dynamic_symbols-requires c =
    dynamic_put_without c.args.image.now c.args.gone.now c.edited_dynamic_symbols.result.now c.in_ok-left.left c.source-source.ensures.edited c.requires.first c.in_ok-left.ensures
    c.edited_dynamic_symbols.ensures.read c.edited_dynamic_symbols.ensures.numbers c.edited_dynamic_symbols.ensures.symbols c.requires.unnamed
    (renumbers_then (has_some c.args.gone.now) (can_renumber c.args.image.now)
    (sym (some_if_not_empty c.args.gone.now) ∙ ap not (sym c.is_empty.ensures ∙ c.if-is_empty.false)) c.requires.tables)

pub returns-then-is_empty : goal.returns-then-is_empty
returns-then-is_empty c =
    let none : has_some c.args.gone.now ≡ false = sym (some_if_not_empty c.args.gone.now) ∙ ap not (sym c.is_empty.ensures ∙ c.if-is_empty.true) in
    record { told = sym none; made = sym (cond-false (has_some c.args.gone.now) (without_dynamic_symbols c.args.gone.now c.args.image.now) c.args.image.now none) }

pub returns : goal.returns
returns c =
    let some : has_some c.args.gone.now ≡ true = sym (some_if_not_empty c.args.gone.now) ∙ ap not (sym c.is_empty.ensures ∙ c.if-is_empty.false) in
    record {
      told = sym some;
      made =
          c.put_dynamic_symbols.ensures
          ∙ dynamic_left c.args.image.now c.args.gone.now c.edited_dynamic_symbols.result.now c.in_ok-left.left c.source-source.ensures.edited c.requires.first c.in_ok-left.ensures
          c.edited_dynamic_symbols.ensures.read c.edited_dynamic_symbols.ensures.numbers c.edited_dynamic_symbols.ensures.symbols c.requires.unnamed
          ∙ sym (cond-true (has_some c.args.gone.now) (without_dynamic_symbols c.args.gone.now c.args.image.now) c.args.image.now some);
    }
