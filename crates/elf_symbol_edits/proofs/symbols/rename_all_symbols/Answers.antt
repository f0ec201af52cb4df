-- The dynamic symbols may be put in place where hash tables and relocations can follow, also after the static ones.
use Rattle.std.proofs.Common.{Bool, ◌∙◌, ap, subst, sym}
use Rattle.std.specs.Prelude.{◌||◌}
use Rattle.elf_edits.specs.TextModel.{pairs_model}
use Rattle.elf_symbol_edits.specs.EditModel.{IsDone}
use Rattle.elf_symbol_edits.specs.SymbolEdit.{RenameAllSymbols}
use Rattle.elf_symbol_edits.proofs.BothSteps.{all_renamed, renamed_put}
use Rattle.elf_symbol_edits.proofs.symbols.rename_all_symbols.Goals as goal

pub put_dynamic_symbols-is_dynamic-requires : goal.put_dynamic_symbols-is_dynamic-requires
put_dynamic_symbols-is_dynamic-requires c =
    let held = c.edited_dynamic_symbols in
    renamed_put (pairs_model c.args.pairs.now) c.args.image.now c.rename_symbols.new.image held.result.now c.in_ok-dynamic.dynamic c.source-source.ensures.edited c.requires.names
    held.ensures.read held.ensures.numbers held.ensures.symbols c.in_ok-dynamic.ensures c.in_ok-is_static.ensures.made

pub returns-then-is_static : goal.returns-then-is_static
returns-then-is_static c =
    let held = c.edited_dynamic_symbols in
    let last = c.put_dynamic_symbols-is_dynamic in
    let Done : Bool → Type 0 = λ b. IsDone (RenameAllSymbols (pairs_model c.args.pairs.now)) c.args.image.now last.new.image b in
    subst Done (ap (λ (b : Bool). b || last.result) c.if-is_static.true ∙ sym c.if-is_static.true)
    (all_renamed (pairs_model c.args.pairs.now) c.args.image.now c.rename_symbols.new.image last.new.image held.result.now c.in_ok-dynamic.dynamic c.in_ok-is_static.is_static
    last.result held.ensures.numbers held.ensures.symbols c.in_ok-dynamic.ensures c.in_ok-is_static.ensures last.ensures.told last.ensures.put)

pub returns-else-is_static : goal.returns-else-is_static
returns-else-is_static c =
    let held = c.edited_dynamic_symbols in
    let last = c.put_dynamic_symbols-is_dynamic in
    let Done : Bool → Type 0 = λ b. IsDone (RenameAllSymbols (pairs_model c.args.pairs.now)) c.args.image.now last.new.image b in
    subst Done (ap (λ (b : Bool). b || last.result) c.if-is_static.false)
    (all_renamed (pairs_model c.args.pairs.now) c.args.image.now c.rename_symbols.new.image last.new.image held.result.now c.in_ok-dynamic.dynamic c.in_ok-is_static.is_static
    last.result held.ensures.numbers held.ensures.symbols c.in_ok-dynamic.ensures c.in_ok-is_static.ensures last.ensures.told last.ensures.put)
