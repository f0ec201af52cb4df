-- The symbols that are left may be put in place, since the first is among them and no relocation names one that went.
use Rattle.std.proofs.Common.{◌≡◌, ◌∙◌, ap, not, sym, true}
use Rattle.elf_edits.specs.Texts.{has_some}
use Rattle.elf_symbol_edits.proofs.DeletionSteps.{renumbers_then, some_if_not_empty}
use Rattle.elf_image.specs.Renumbering.{can_renumber}
use Rattle.elf_symbol_edits.proofs.PutSteps.{dynamic_left, dynamic_put_without}
use Rattle.elf_symbol_edits.proofs.symbols.dynamic_without.Goals as goal

pub returns-then-is_empty : goal.returns-then-is_empty
returns-then-is_empty c = sym (some_if_not_empty c.args.gone.now) ∙ ap not (sym c.is_empty.ensures ∙ c.if-is_empty.true)

pub returns : goal.returns
returns c =
    let some : has_some c.args.gone.now ≡ true = sym (some_if_not_empty c.args.gone.now) ∙ ap not (sym c.is_empty.ensures ∙ c.if-is_empty.false) in
    let held = c.edited_dynamic_symbols in (
      some,
      dynamic_put_without c.args.image.now c.args.gone.now held.result.now c.in_ok-left.left c.source-source.ensures.edited c.requires.first c.in_ok-left.ensures
          held.ensures.read held.ensures.numbers held.ensures.symbols c.requires.unnamed (renumbers_then (has_some c.args.gone.now) (can_renumber c.args.image.now) some c.requires.tables),
      dynamic_left c.args.image.now c.args.gone.now held.result.now c.in_ok-left.left c.source-source.ensures.edited c.requires.first c.in_ok-left.ensures
          held.ensures.read held.ensures.numbers held.ensures.symbols c.requires.unnamed,
    )
