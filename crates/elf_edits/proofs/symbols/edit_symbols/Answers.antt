-- The edit is that of its name.
use Rattle.std.proofs.Common.{ap, subst, sym, ◌∙◌}
use Rattle.std.specs.Prelude.{IfOk}
use Rattle.elf_edits.specs.Edit.{ClearSymbolVersion, Edit, edit_model}
use Rattle.elf_edits.specs.SymbolChanges.{AreSymbolsAfter}
use Rattle.elf_edits.proofs.symbols.edit_symbols.Goals as goal

pub returns-in-ClearSymbolVersion : goal.returns-in-ClearSymbolVersion
returns-in-ClearSymbolVersion c =
    subst (λ (e : Edit). IfOk c.change.result (AreSymbolsAfter e c.args.symbols.now))
    (sym (ap edit_model c.in-ClearSymbolVersion.is ∙ ap ClearSymbolVersion (sym c.as_slice-in-ClearSymbolVersion.ensures.value))) c.change.ensures
